-- Why a page moves one way, and what is left between two migrations.
pub mod Goes
pub mod Travel
pub mod OneWay
pub mod Between
