pub mod Judged
mod Laws
mod Examples
