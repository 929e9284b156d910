mod Digits
mod Decimal
mod TextLemmas
mod Trimmed
mod Halves
mod UserLaws
