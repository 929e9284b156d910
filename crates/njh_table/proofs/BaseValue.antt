-- What the base tables' text gives, computed, and what reading it can answer.
use Rattle.std.proofs.Common.{◌≡◌, ◌≢◌, Result, Ok, Err, IfOk, IfErr, refl}
use Rattle.std.specs.Str.{chars}
use Rattle.toml.proofs.OnLiterals.{toml_on_literals}
use Rattle.njh_ebcdic.specs.Characters.{byte_of_character}
use Rattle.njh_table.specs.declared.fault.TableFault.{TableFault}
use Rattle.njh_table.specs.declared.fault.TableFault.TheVariants.{BadToml, MissingKey, BadValue, DoubleLine, DoubleNode}
use Rattle.njh_table.specs.declared.fault.TableFault.TheVariants.{UnknownLine, QuotaOver, TooMany, Memory}
use Rattle.njh_table.specs.declared.read.TheConstants.{BASE}
use Rattle.njh_table.specs.Base.{base_tables}
use Rattle.njh_table.specs.TableFile.{TableFile}
use Rattle.njh_table.specs.Keys.{Walked}
use Rattle.njh_table.specs.Walk.{tables_of, walked_line, next_line, route_by, next_route, customer_keys, next_customer}
use Rattle.njh_table.specs.Walk.{walk_in}

pub base_read : tables_of BASE.now ≡ Ok base_tables
unfolding chars toml_on_literals byte_of_character walked_line next_line route_by next_route customer_keys next_customer
    walk_in
base_read = refl

-- a fault that cannot be any but want of memory
only_memory : (fault : TableFault) → (fault ≢ Memory → ⊥) → fault ≡ Memory
only_memory BadToml no_other = absurd (no_other (λ same. cc))
only_memory MissingKey no_other = absurd (no_other (λ same. cc))
only_memory BadValue no_other = absurd (no_other (λ same. cc))
only_memory DoubleLine no_other = absurd (no_other (λ same. cc))
only_memory DoubleNode no_other = absurd (no_other (λ same. cc))
only_memory UnknownLine no_other = absurd (no_other (λ same. cc))
only_memory QuotaOver no_other = absurd (no_other (λ same. cc))
only_memory TooMany no_other = absurd (no_other (λ same. cc))
only_memory Memory no_other = refl

-- where the walk gives tables, reading answers them or want of memory
pub read_gives : (walked : Walked TableFile) (tables : TableFile) (result : Result TableFile TableFault)
    → walked ≡ Ok tables
    → IfOk result (λ t. walked ≡ Ok t) → IfOk result (λ t. t ≡ tables)
read_gives walked tables (Ok t) known told = cc
read_gives walked tables (Err fault) known told = tt

pub read_refuses : (walked : Walked TableFile) (tables : TableFile) (result : Result TableFile TableFault) → walked
    ≡ Ok tables → IfErr result (λ fault. fault ≢ Memory → walked ≡ Err fault) → IfErr result (λ fault. fault ≡ Memory)
read_refuses walked tables (Ok t) known told = tt
read_refuses walked tables (Err fault) known told = only_memory fault (λ no_memory. let refused = told no_memory in cc)
