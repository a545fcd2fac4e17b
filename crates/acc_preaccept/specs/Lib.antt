pub mod PreAccepting
