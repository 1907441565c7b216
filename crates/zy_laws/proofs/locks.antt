-- Why an exclusive lock is alone, why who holds one is active, and why a transaction is gone in the dual mode alone.
pub mod Locking
pub mod Homes
pub mod Runners
pub mod CutLocks
pub mod TxnLocks
pub mod LockingSteps
pub mod Reached
pub mod Gone
