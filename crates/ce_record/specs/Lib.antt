pub mod CubeRounds
pub mod HeldCubes
pub mod Laws
pub mod Requests
pub mod Run
pub mod Users
