pub mod CertificateViews
pub mod Faults
pub mod Inputs
pub mod Places
pub mod Rejections
pub mod Views
