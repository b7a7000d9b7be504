mod Tops
pub mod Room
