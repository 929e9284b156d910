-- Words that ask for a text: the program's version, or help.
use Rattle.std.specs.Prelude.{◌||◌, Bool, true, false, List, codes, slice_get}
use Rattle.std.specs.Option.{option_map_or}
use Rattle.std.specs.Str.{bytes_eq}
use Rattle.clap.specs.Words.{Text}
use Rattle.clap.specs.declared.error.kind.ErrorKind.{ErrorKind}
use Rattle.clap.specs.declared.error.kind.ErrorKind.TheVariants.{DisplayHelp, DisplayVersion}

-- a subcommand whose help is printed: that of `replay` is a refusal
abbrev pub has_help : Text → Bool
has_help word = bytes_eq word (codes "serve") || bytes_eq word (codes "decode") || bytes_eq word (codes "encode")
    || bytes_eq word (codes "check") || bytes_eq word (codes "files") || bytes_eq word (codes "ctl")

-- What a parse that ends so shows is asked for, and no refusal: the version, or the help of such a subcommand. The
-- first word is the program's name, and no word can stand between it and a subcommand.
abbrev pub is_shown : (arguments : List Text) → ErrorKind → Bool
is_shown arguments DisplayVersion = true
is_shown arguments DisplayHelp = option_map_or has_help (slice_get arguments 1) false
is_shown arguments kind = false
