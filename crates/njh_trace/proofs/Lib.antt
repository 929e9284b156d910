mod MappedLaws
mod MarkLaws
mod PartLaws
mod ReadingLaws
mod SentLaws
mod SourceLaws
mod TracedSoFar
