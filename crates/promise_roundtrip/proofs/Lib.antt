pub mod AcceptedLaws
pub mod BytesLaws
pub mod FormLaws
pub mod LineLaws
pub mod RecordBack
pub mod Again
