-- References and the remember table after the copying.
pub mod Rewrite
pub mod RewriteSlots
pub mod RewriteCopies
pub mod Settle
pub mod Update
pub mod Touched
pub mod Renew
