pub mod Deeds
pub mod Gathering
pub mod HintsPut
pub mod Sends
