-- Frames that were written, and what they read as.
use Rattle.std.proofs.Common.{◌≡◌, ◌≤◌, ℕ, [], ◌∷◌, length, Ok, IsTrue, refl, sym, ap, ◌∙◌}
use Rattle.std.proofs.lemmas.List.{append-nil}
use Rattle.njh_nmr.specs.Nodal.{Nodal, IsMessage, nodal_of, record_of}
use Rattle.njh_nmr.proofs.RoundTrip.{nodal_of-record_of}
use Rattle.njh_bisync.specs.declared.frame.Control.{Control}
use Rattle.njh_bisync.specs.declared.frame.Control.TheVariants.{Enquiry, Ack0, Nak}
use Rattle.njh_bisync.specs.Frames.{Eot}
use Rattle.njh_bisync.specs.ByteSteps.{rest_step}
use Rattle.njh_bisync.specs.Limits.{longest_text}
use Rattle.njh_bisync.specs.Written.{control_bytes, control_frame}
use Rattle.njh_bisync.proofs.ReadBack
use Rattle.njh_bisync.proofs.ReadBack.{text_reads}
use Rattle.njh_bisync.proofs.FedLaws.{reads_from}
use Rattle.njh_block.specs.Blocks.{Item, is_bcb, text_of}
use Rattle.njh_block.specs.declared.out.Out.{Out}
use Rattle.njh_block.specs.declared.out.Out.TheVariants as out
use Rattle.njh_block.specs.ItemViews.{IsWritable, outgoing_item}
use Rattle.njh_block.specs.Writing.{IsWritten}
use Rattle.njh_block.proofs.WritingLaws.{text-read}
use Rattle.njh_encode.specs.Encoded.{ReadsBlock, ReadsFrame, block_with, bytes_of_frame}

pub control_same : (control : Control) → bytes_of_frame (control_frame control) ≡ control_bytes control
control_same Enquiry = refl
control_same Ack0 = refl
control_same Nak = refl

-- the bytes of a control frame read as it
pub control_reads : (control : Control) → ReadsFrame (control_frame control)
control_reads Enquiry = ReadBack.control_reads Enquiry
control_reads Ack0 = ReadBack.control_reads Ack0
control_reads Nak = ReadBack.control_reads Nak

-- and the byte of EOT
pub eot_reads : ReadsFrame Eot
unfolding rest_step
eot_reads = reads_from (0x37 ∷ [])

-- what can be written is an item as it is written
pub is_written : (record_out : Out) → IsWritable record_out → IsWritten (outgoing_item record_out)
is_written (out.Data rcb srcb bytes) can = can
is_written (out.Abort rcb srcb) can = can
is_written (out.Control rcb srcb) can = (rcb, refl)
is_written (out.General srcb bytes) can = can

-- the bytes of a block of one record read as it
pub block_reads : (bcb : ℕ) (i : Item) → IsTrue (is_bcb bcb) → IsWritten i
    → length (text_of bcb (0x8f, 0xcf) (i ∷ [])) ≤ longest_text → ReadsBlock (block_with bcb i)
block_reads bcb i good is short =
    record {
      frame = text_reads (text_of bcb (0x8f, 0xcf) (i ∷ [])) short;
      block = text-read bcb (0x8f, 0xcf) (i ∷ []) good refl (is, λ _. refl, tt);
    }

-- a message reads from its record if nothing comes after
pub nodal_back : (n : Nodal) → IsMessage n → nodal_of (record_of n) ≡ Ok n
nodal_back n is = ap nodal_of (sym (append-nil (record_of n))) ∙ nodal_of-record_of n [] is
