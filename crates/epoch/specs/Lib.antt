-- The end of an epoch: what each call asks, and the promise of code 2 at each way out.
pub mod EndDid
