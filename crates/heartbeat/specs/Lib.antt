pub mod Beats
pub mod Pulse
pub mod PulseLaws
pub mod Clocks
