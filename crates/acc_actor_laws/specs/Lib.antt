pub mod OpeningOrder
pub mod TakenAlone
