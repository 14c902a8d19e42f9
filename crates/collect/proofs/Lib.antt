pub mod CollectPromised
