pub mod OwnLimits
