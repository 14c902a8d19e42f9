pub mod Arms
pub mod NotObeyed
