-- What a record is read as is the header that it is by its sections, or why it is none.
use Rattle.std.proofs.Common.{◌≡◌, ℕ, ◌+◌, Bool, true, false, List, Result, Ok, Err, cond, refl, sym, ◌∙◌, ap, subst}
use Rattle.njh_record.specs.Bytes.{field}
use Rattle.njh_ebcdic.specs.Names.{is_name}
use Rattle.njh_header.specs.declared.fault.HeaderFault.{HeaderFault}
use Rattle.njh_header.specs.declared.fault.HeaderFault.TheVariants.{TooShort, NoGeneralSection, BadName, SectionOverrun}
use Rattle.njh_header.specs.Headers.{IsHeader, IsFault, header_of}
use Rattle.njh_header.specs.Sections.{HasGeneral, LacksGeneral}
use Rattle.njh_header.specs.Walk.{general_section}
use Rattle.njh_header.proofs.SectionsLaw.{Finds, found, general_found, lack_found}

module _ {H : Type 0} (size name : ℕ) (fields : List ℕ → ℕ → H) where
  -- the answer says of the record what it is
  abbrev pub Tells : List ℕ → Result H HeaderFault → Type 0
  Tells bytes (Ok header) = IsHeader size name fields bytes header
  Tells bytes (Err fault) = IsFault size name bytes fault

  -- what the place of the general section gives
  abbrev pub read_at : List ℕ → Result ℕ HeaderFault → Result H HeaderFault
  read_at bytes place =
      elim place [
        | Ok section ↦ cond (is_name (field (section + name) 8 bytes)) (Ok (fields bytes section)) (Err BadName)
        | Err fault ↦ Err fault
      ]

  named_tells : (bytes : List ℕ) (section : ℕ) (named : Bool) → is_name (field (section + name) 8 bytes) ≡ named
      → HasGeneral size bytes section
      → Tells bytes (cond named (Ok (fields bytes section)) (Err BadName))
  named_tells bytes section true is general = record { section = section; general = general; named = is; says = refl }
  named_tells bytes section false is general = (section, general, is)

  lacks_tells : (bytes : List ℕ) (fault : HeaderFault) → LacksGeneral size bytes fault → IsFault size name bytes fault
  lacks_tells bytes TooShort lacks = lacks
  lacks_tells bytes NoGeneralSection lacks = lacks
  lacks_tells bytes SectionOverrun lacks = lacks
  lacks_tells bytes BadName lacks = absurd lacks

  read_tells : (bytes : List ℕ) (place : Result ℕ HeaderFault) → Finds size bytes place
      → Tells bytes (read_at bytes place)
  read_tells bytes (Ok section) finds = named_tells bytes section (is_name (field (section + name) 8 bytes)) refl finds
  read_tells bytes (Err fault) finds = lacks_tells bytes fault finds

  pub header_of-tells : (bytes : List ℕ) → Tells bytes (header_of size name fields bytes)
  header_of-tells bytes = read_tells bytes (general_section size bytes) (found size bytes)

  pub IsHeader-read : (bytes : List ℕ) (header : H) → IsHeader size name fields bytes header
      → header_of size name fields bytes ≡ Ok header
  IsHeader-read bytes header is =
      ap (read_at bytes) (general_found size bytes is.section is.general)
      ∙ (ap (λ (named : Bool). cond named (Ok (fields bytes is.section)) (Err BadName)) is.named
      ∙ ap (λ (h : H). Ok h) (sym is.says))

  pub IsFault-read : (bytes : List ℕ) (fault : HeaderFault) → IsFault size name bytes fault
      → header_of size name fields bytes ≡ Err fault
  IsFault-read bytes TooShort is = ap (read_at bytes) (lack_found size bytes TooShort is)
  IsFault-read bytes NoGeneralSection is = ap (read_at bytes) (lack_found size bytes NoGeneralSection is)
  IsFault-read bytes SectionOverrun is = ap (read_at bytes) (lack_found size bytes SectionOverrun is)
  IsFault-read bytes BadName is =
      ap (read_at bytes) (general_found size bytes is.0 is.1)
      ∙ ap (λ (named : Bool). cond named (Ok (fields bytes is.0)) (Err BadName)) is.2

  -- ---- both ways

  pub header_law : (bytes : List ℕ) (header : H)
      → (header_of size name fields bytes
      ≡ Ok header → IsHeader size name fields bytes header)
      × (IsHeader size name fields bytes header → header_of size name fields bytes
      ≡ Ok header)
  header_law bytes header = (λ is. subst (Tells bytes) is (header_of-tells bytes), IsHeader-read bytes header)

  pub fault_law : (bytes : List ℕ) (fault : HeaderFault)
      → (header_of size name fields bytes
      ≡ Err fault → IsFault size name bytes fault)
      × (IsFault size name bytes fault → header_of size name fields bytes ≡ Err fault)
  fault_law bytes fault = (λ is. subst (Tells bytes) is (header_of-tells bytes), IsFault-read bytes fault)
