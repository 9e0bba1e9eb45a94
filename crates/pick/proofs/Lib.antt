-- what is known of a pick that its tests pass
pub mod Picking
