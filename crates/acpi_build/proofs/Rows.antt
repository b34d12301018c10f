-- The rows of idle tables, field by field.
use Rattle.std.proofs.Common.{◌≡◌, ◌==◌, ◌%◌, ◌/◌, ◌+◌, ◌*◌, ℕ, Bool, true, false, List, [], ◌∷◌, map, Option, Some, None, refl, sym, arith}
use Rattle.std.specs.Prelude.{IsTrue}
use Rattle.std.specs.List.{AllZip}
use Rattle.std.proofs.lemmas.Bool.Decides.{nat_tests}
use Rattle.acpi_values.specs.declared.idle.CState.{CState}
use Rattle.acpi_values.specs.declared.idle.IdleKind.{IdleKind}
use Rattle.acpi_values.specs.declared.idle.IdleKind.TheVariants as kinds
use Rattle.acpi_values.specs.declared.idle.IdleRow.{IdleRow}
use Rattle.acpi_values.specs.declared.idle.IdleTable.{IdleTable}
use Rattle.acpi_values.specs.declared.lpi.EntryMethod.{EntryMethod}
use Rattle.acpi_values.specs.declared.lpi.EntryMethod.TheVariants as entry
use Rattle.acpi_values.specs.declared.lpi.Lpi.{Lpi}
use Rattle.acpi_values.specs.declared.lpi.LpiState.{LpiState}
use Rattle.acpi_build.specs.Machine.{cst_row, idle_table, lpi_row}
use Rattle.acpi_build.specs.Rows.{HasRows, IsCRow, IsLpiRow, IsOdd}

-- # Lists

zip_map : {X Y : Type 0} (R : X → Y → Type 0) (f : X → Y) → ((x : X) → R x (f x)) → (xs : List X) → AllZip R xs (map f xs)
zip_map R f each [] = tt
zip_map R f each (x ∷ xs) = (each x, zip_map R f each xs)

map_zip : {X Y : Type 0} (R : X → Y → Type 0) (f : X → Y) → ((x : X) (y : Y) → R x y → y ≡ f x) → (xs : List X) (ys : List Y) → AllZip R xs ys → ys ≡ map f xs
map_zip R f each [] [] zip = refl
map_zip R f each [] (y ∷ ys) zip = absurd zip
map_zip R f each (x ∷ xs) [] zip = absurd zip
map_zip R f each (x ∷ xs) (y ∷ ys) zip = let first = each x y zip.0 in let rest = map_zip R f each xs ys zip.1 in cc

-- # Rows

odd_to : (n : ℕ) → (n % 2 == 1) ≡ true → IsOdd n
odd_to n e = let rest : n % 2 ≡ 1 = grind (arith, nat_tests) in (n / 2, omega (arith, rest))

odd_from : (n half : ℕ) → n ≡ 2 * half + 1 → (n % 2 == 1) ≡ true
odd_from n half e = let rest : n % 2 ≡ 1 = omega (arith, e) in grind (arith, nat_tests)

same_test : (a b : Bool) → (IsTrue a → IsTrue b) → (IsTrue b → IsTrue a) → a ≡ b
same_test true b to from = sym (to refl)
same_test false true to from = from refl
same_test false false to from = refl

same_fields : (row : IdleRow) (enabled : Bool) (latency residency parent : ℕ) (method : EntryMethod) → row.enabled ≡ enabled → row.latency ≡ latency → row.residency ≡ residency
    → row.parent ≡ parent → row.entry ≡ method → row ≡ record { enabled = enabled; latency = latency; residency = residency; parent = parent; entry = method }
same_fields row enabled latency residency parent method a b c d e = rw (← a, ← b, ← c, ← d, ← e) refl

lpi_is : (s : LpiState) → IsLpiRow s (lpi_row s)
lpi_is s = record {
  enabled = (odd_to s.flags, λ odd. odd_from s.flags odd.0 odd.1);
  latency = refl;
  residency = refl;
  parent = refl;
  entry = refl;
}

one_lpi : (s : LpiState) (row : IdleRow) → IsLpiRow s row → row ≡ lpi_row s
one_lpi s row is =
    let enabled = same_test row.enabled (s.flags % 2 == 1) (λ t. let odd = is.enabled.0 t in odd_from s.flags odd.0 odd.1) (λ t. is.enabled.1 (odd_to s.flags t)) in
    same_fields row (s.flags % 2 == 1) s.wake_latency s.min_residency s.parent s.entry enabled is.latency is.residency is.parent is.entry

cst_is : (s : CState) → IsCRow s (cst_row s)
cst_is s = record { enabled = refl; latency = refl; residency = refl; parent = refl; entry = refl }

one_cst : (s : CState) (row : IdleRow) → IsCRow s row → row ≡ cst_row s
one_cst s row is = same_fields row true s.latency 0 0 (entry.Register s.register) is.enabled is.latency is.residency is.parent is.entry

-- # Tables

pub table_rows : (lpi : Option Lpi) (cst : Option (List CState)) → HasRows lpi cst (idle_table lpi cst)
table_rows (Some lpi) cst = (refl, zip_map IsLpiRow lpi_row lpi_is lpi.states)
table_rows None (Some states) = (refl, zip_map IsCRow cst_row cst_is states)
table_rows None None = (refl, refl)

same_table : (t : IdleTable) (kind : IdleKind) (rows : List IdleRow) → t.kind ≡ kind → t.rows ≡ rows → t ≡ record { kind = kind; rows = rows }
same_table t kind rows a b = rw (← a, ← b) refl

pub one_idle_table : (lpi : Option Lpi) (cst : Option (List CState)) (t : IdleTable) → HasRows lpi cst t → t ≡ idle_table lpi cst
one_idle_table (Some lpi) cst t has = same_table t kinds.Lpi (map lpi_row lpi.states) has.0 (map_zip IsLpiRow lpi_row one_lpi lpi.states t.rows has.1)
one_idle_table None (Some states) t has = same_table t kinds.Cst (map cst_row states) has.0 (map_zip IsCRow cst_row one_cst states t.rows has.1)
one_idle_table None None t has = same_table t kinds.Absent [] has.0 has.1

pub rows_from : (lpi : Option Lpi) (cst : Option (List CState)) (t : IdleTable) → t ≡ idle_table lpi cst → HasRows lpi cst t
rows_from lpi cst t is = rw is (table_rows lpi cst)
