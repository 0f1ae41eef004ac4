pub mod SearchLaws
pub mod NeverLaws
pub mod BoundLaws
pub mod PassLaws
pub mod CountLaws
pub mod BalanceLaws
