-- The tables without a file: two customers with a line each.
use Rattle.std.specs.Prelude.{List, ℕ, false, [], ◌∷◌, codes, None}
use Rattle.njh_ebcdic.specs.Names.{ebcdic, padded_field}
use Rattle.njh_table.specs.declared.Protocol.TheVariants.{Bisync}
use Rattle.njh_table.specs.declared.Role.TheVariants.{Answer}
use Rattle.njh_table.specs.TableFile.{NamedCustomer, TableFile}

-- a customer with one line, by which it reaches its node LYON
abbrev pub customer_with_a_line : List ℕ → List ℕ → NamedCustomer
customer_with_a_line name line =
    let lyon = padded_field (ebcdic (codes "LYON")) in
    record {
      name = padded_field (ebcdic name);
      hub = padded_field (ebcdic (codes "BUREAU"));
      quota = 100;
      files = 8;
      lines =
          record {
            name = line;
            port = 0;
            peer = None;
            from = [];
            protocol = Bisync;
            up = false;
            entry = record { node = lyon; role = Answer; block = 1024; streams = 4; password = [] };
          }
          ∷ [];
      routes = record { node = lyon; line = 0; second = None } ∷ [];
    }

abbrev pub base_tables : TableFile
base_tables = record {
  capacity = 200;
  customers = customer_with_a_line (codes "ACME") (codes "a1") ∷ customer_with_a_line (codes "BOLT") (codes "b1") ∷ [];
}
