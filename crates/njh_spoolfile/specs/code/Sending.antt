-- Of an SRCB what counts where a file's destination is sought.
use Rattle.std.specs.Prelude.{ℕ, ◌==◌, cond}

-- a data set header's, or 0
abbrev pub short_srcb : ℕ → ℕ
short_srcb srcb = cond (srcb == 0xe0) 0xe0 0
