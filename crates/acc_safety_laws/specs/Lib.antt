pub mod AgreementPremises
pub mod CoveragePremises
