pub mod LockTable
