pub mod CountLaws
pub mod RowLaws
pub mod TableLaws
pub mod RefusalLaws
pub mod EndLaws
pub mod UpLaws
pub mod AnsweringLaws
