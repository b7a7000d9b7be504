pub mod Instance
