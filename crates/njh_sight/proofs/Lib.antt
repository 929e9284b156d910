mod RowLaws
mod TallyLaws
