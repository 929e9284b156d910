-- What faults are called.
use Rattle.std.specs.Prelude.{ℕ, List, codes}
use Rattle.njh_block.specs.declared.fault.BlockFault.{BlockFault}
use Rattle.njh_block.specs.declared.fault.BlockFault.TheVariants as block
use Rattle.njh_header.specs.declared.fault.HeaderFault.{HeaderFault}
use Rattle.njh_header.specs.declared.fault.HeaderFault.TheVariants as header
use Rattle.njh_nmr.specs.declared.fault.NmrFault.{NmrFault}
use Rattle.njh_nmr.specs.declared.fault.NmrFault.TheVariants as nmr

unfoldable pub block_fault_words : BlockFault → List ℕ
block_fault_words block.TooShort = codes "B1 TooShort"
block_fault_words block.BadBcb = codes "B2 BadBcb"
block_fault_words block.BadFcs = codes "B3 BadFcs"
block_fault_words block.BadRcb = codes "B4 BadRcb"
block_fault_words block.BadRecord = codes "B5 BadRecord"

unfoldable pub header_fault_words : HeaderFault → List ℕ
header_fault_words header.TooShort = codes "H1 TooShort"
header_fault_words header.NoGeneralSection = codes "H2 NoGeneralSection"
header_fault_words header.BadName = codes "H3 BadName"
header_fault_words header.SectionOverrun = codes "H4 SectionOverrun"

unfoldable pub nmr_fault_words : NmrFault → List ℕ
nmr_fault_words nmr.TooShort = codes "N1 TooShort"
nmr_fault_words nmr.BadLength = codes "N2 BadLength"
nmr_fault_words nmr.BadName = codes "N3 BadName"
