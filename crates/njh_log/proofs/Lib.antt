mod LineLaws
mod LoggingLaws
mod SpellLaws
