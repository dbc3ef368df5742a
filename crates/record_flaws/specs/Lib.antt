pub mod FlawText
pub mod First
pub mod PhaseFlaws
pub mod StrandFlaws
