-- What the codes of a block are by their bits and by their place (IBM SC23-0070, multileaving).
use Rattle.std.specs.Prelude.{ℕ, nat_lt, cond}
use Rattle.njh_record.specs.declared.Kind.{Kind}
use Rattle.njh_record.specs.declared.Kind.TheVariants.{In, Out}
use Rattle.njh_block.specs.declared.bcb.Numbering.{Numbering}
use Rattle.njh_block.specs.declared.bcb.Numbering.TheVariants.{Normal, Unchecked, Setting}

-- NNN of a block control byte, bits 1 NNN CCCC
abbrev pub numbering_bits : Numbering → ℕ
numbering_bits Normal = 0
numbering_bits Unchecked = 1
numbering_bits Setting = 2

-- of which kind a stream is: SYSIN 1 to 4 are 0 to 3, SYSOUT 1 to 4 are 4 to 7
abbrev pub kind_of : ℕ → Kind
kind_of s = cond (nat_lt s 4) In Out
