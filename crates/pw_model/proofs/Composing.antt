-- The entry methods of a chain as one register.
use Rattle.std.proofs.Common.{◌≡◌, ◌<◌, ◌+◌, ◌%◌, ◌^◌, ℕ, List, [], ◌∷◌, ◌++◌, map, refl, ap, sym, ◌∙◌, arith}
use Rattle.std.specs.Prelude.{sum, zip}
use Rattle.std.proofs.Math.Nat.{mod-add-mod, mod-eq_of_lt}
use Rattle.std.proofs.lemmas.List.Sums.{sum_by-cons}
use Rattle.std.proofs.lemmas.Nat.{mod_below}
use Rattle.acpi_values.specs.declared.lpi.EntryMethod.{EntryMethod}
use Rattle.acpi_values.specs.declared.lpi.EntryMethod.TheVariants as entry
use Rattle.acpi_values.specs.declared.register.Register.{Register}
use Rattle.pw_plan.specs.declared.plan.Plan.{Plan}
use Rattle.pw_plan.specs.Places.{container_at, cpu_at, row_at}
use Rattle.pw_model.specs.Composites.{add_entries, add_entry, composite_of, entered_register, own_register}
use Rattle.pw_model.specs.Containers.{ancestors}
use Rattle.pw_model.specs.Entering.{entries_of, fixed_hardware}

-- entry methods one on top of the other, and the first of them on nothing
abbrev added : Register → List EntryMethod → Register
added r [] = r
added r (e ∷ es) = added (add_entry r e) es

abbrev whole : List EntryMethod → Register
whole [] = own_register (entry.Integer 0)
whole (e ∷ es) = added (own_register e) es

added_append : (es fs : List EntryMethod) (r : Register) → added r (es ++ fs) ≡ added (added r es) fs
added_append [] fs r = refl
added_append (e ∷ es) fs r = added_append es fs (add_entry r e)

-- a register takes the place of what is below
whole_at : (below : List EntryMethod) (r : Register) (more : List EntryMethod) → whole (below ++ entry.Register r ∷ more) ≡ added r more
whole_at [] r more = refl
whole_at (e ∷ es) r more = added_append es (entry.Register r ∷ more) (own_register e)

sum-more : (n : ℕ) (ns : List ℕ) → sum (n ∷ ns) ≡ n + sum ns
sum-more n ns = sum_by-cons (λ k. k) n ns

-- integers are added to the address
module _ (m : ℕ) (small : 0 < m) where
  one_more : (a n s : ℕ) → ((a + n) % m + s) % m ≡ (a + (n + s)) % m
  one_more a n s = mod-add-mod (a + n) m s ∙ ap (λ k. k % m) (same a n s)
    where
      same : (a n s : ℕ) → a + n + s ≡ a + (n + s)
      same a n s = omega arith

integers_added : (ns : List ℕ) (r : Register) → r.address < 2 ^ 64 → added r (map (λ n. entry.Integer n) ns) ≡ record r { address = (r.address + sum ns) % 2 ^ 64 }
integers_added [] r lt = ap (λ (a : ℕ). record r { address = a }) (sym (mod-eq_of_lt (omega (arith, lt))) ∙ ap (λ a. a % 2 ^ 64) (omega arith))
integers_added (n ∷ ns) r lt =
    integers_added ns (record r { address = (r.address + n) % 2 ^ 64 }) (mod_below (r.address + n) (2 ^ 64) (omega arith))
    ∙ ap (λ (a : ℕ). record r { address = a }) (one_more (2 ^ 64) (omega arith) r.address n (sum ns) ∙ ap (λ s. (r.address + s) % 2 ^ 64) (sym (sum-more n ns)))

-- # A processor's register

module _ (P : Plan) where
  entries_added : (ns ss : List ℕ) (r : Register) → add_entries P r ns ss ≡ added r (map (λ (c : ℕ × ℕ). (row_at (container_at P c.0).idle c.1).entry) (zip ns ss))
  entries_added [] [] r = refl
  entries_added [] (s ∷ ss) r = refl
  entries_added (n ∷ ns) [] r = refl
  entries_added (n ∷ ns) (s ∷ ss) r = entries_added ns ss (add_entry r (row_at (container_at P n).idle s).entry)

  is_whole : (p : ℕ) (states : List ℕ) → entered_register P p states ≡ whole (entries_of P p states)
  is_whole p [] = refl
  is_whole p (s ∷ ss) = entries_added (ancestors P p) ss (own_register (row_at (cpu_at P p).idle s).entry)

  pub outermost_register : (p : ℕ) (states : List ℕ) (below : List EntryMethod) (r : Register) (ns : List ℕ)
      → entries_of P p states ≡ below ++ entry.Register r ∷ map (λ n. entry.Integer n) ns → r.address < 2 ^ 64
      → (composite_of P p states).register ≡ record r { address = (r.address + sum ns) % 2 ^ 64 }
  outermost_register p states below r ns e lt =
      is_whole p states ∙ ap whole e ∙ whole_at below r (map (λ n. entry.Integer n) ns) ∙ integers_added ns r lt

  pub integers_alone : (p : ℕ) (states : List ℕ) (n : ℕ) (ns : List ℕ) → entries_of P p states ≡ entry.Integer n ∷ map (λ k. entry.Integer k) ns → n < 2 ^ 64
      → (composite_of P p states).register ≡ fixed_hardware ((n + sum ns) % 2 ^ 64)
  integers_alone p states n ns e lt = is_whole p states ∙ ap whole e ∙ integers_added ns (fixed_hardware n) lt
