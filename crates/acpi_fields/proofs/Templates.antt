-- The bytes of which a register is read are a resource template of it, and the other way round.
use Rattle.std.proofs.Common.{◌≡◌, ◌+◌, ◌%◌, ◌==◌, ◌⊎◌, ℕ, true, List, Option, Some, None, [], ◌∷◌, ◌++◌, length, sum, Ok, inl, inr, refl, ap, subst, arith}
use Rattle.std.specs.Prelude.{◌||◌}
use Rattle.std.specs.Int.{w64, from_le_bytes}
use Rattle.std.proofs.lemmas.Bool.Decides.{nat_tests}
use Rattle.acpi_values.specs.Registers.{has_sum, register_in, register_of, tagged_register, wrong_tag}
use Rattle.acpi_values.specs.declared.register.Register.{Register}
use Rattle.acpi_fields.specs.Meaning.{IsTemplateOf}

-- # Lists of so many

for_cons : (P : List ℕ → Type 0) (n : ℕ) → ((b : ℕ) (bs : List ℕ) → length bs ≡ n → P (b ∷ bs)) → (bs : List ℕ) → length bs ≡ n + 1 → P bs
for_cons P n each [] e = absurd (omega arith)
for_cons P n each (b ∷ bs) e = each b bs (omega arith)

for_nil : (P : List ℕ → Type 0) → P [] → (bs : List ℕ) → length bs ≡ 0 → P bs
for_nil P here [] e = here
for_nil P here (b ∷ bs) e = absurd (omega arith)

-- what holds of all lists of eight
for_8 : (P : List ℕ → Type 0) → ((a b c d e f g h : ℕ) → P (a ∷ b ∷ c ∷ d ∷ e ∷ f ∷ g ∷ h ∷ [])) → (bs : List ℕ) → length bs ≡ 8 → P bs
for_8 P each bs long =
    for_cons P 7 (λ a bs1 l1. for_cons (λ t. P (a ∷ t)) 6 (λ b bs2 l2. for_cons (λ t. P (a ∷ b ∷ t)) 5 (λ c bs3 l3. for_cons (λ t. P (a ∷ b ∷ c ∷ t)) 4
    (λ d bs4 l4. for_cons (λ t. P (a ∷ b ∷ c ∷ d ∷ t)) 3 (λ e bs5 l5. for_cons (λ t. P (a ∷ b ∷ c ∷ d ∷ e ∷ t)) 2
    (λ f bs6 l6. for_cons (λ t. P (a ∷ b ∷ c ∷ d ∷ e ∷ f ∷ t)) 1 (λ g bs7 l7. for_cons (λ t. P (a ∷ b ∷ c ∷ d ∷ e ∷ f ∷ g ∷ t)) 0
    (λ h bs8 l8. for_nil (λ t. P (a ∷ b ∷ c ∷ d ∷ e ∷ f ∷ g ∷ h ∷ t)) (each a b c d e f g h) bs8 l8) bs7 l7) bs6 l6) bs5 l5) bs4 l4) bs3 l3) bs2 l2) bs1 l1) bs long

-- what holds of all lists of seventeen: seven, eight and two
for_17 : (P : List ℕ → Type 0) → ((t u v s w o x a b c d e f g h y z : ℕ) → P (t ∷ u ∷ v ∷ s ∷ w ∷ o ∷ x ∷ a ∷ b ∷ c ∷ d ∷ e ∷ f ∷ g ∷ h ∷ y ∷ z ∷ []))
    → (bs : List ℕ) → length bs ≡ 17 → P bs
for_17 P each bs long =
    for_cons P 16 (λ t bs1 l1. for_cons (λ r. P (t ∷ r)) 15 (λ u bs2 l2. for_cons (λ r. P (t ∷ u ∷ r)) 14 (λ v bs3 l3. for_cons (λ r. P (t ∷ u ∷ v ∷ r)) 13
    (λ s bs4 l4. for_cons (λ r. P (t ∷ u ∷ v ∷ s ∷ r)) 12 (λ w bs5 l5. for_cons (λ r. P (t ∷ u ∷ v ∷ s ∷ w ∷ r)) 11
    (λ o bs6 l6. for_cons (λ r. P (t ∷ u ∷ v ∷ s ∷ w ∷ o ∷ r)) 10 (λ x bs7 l7. for_cons (λ r. P (t ∷ u ∷ v ∷ s ∷ w ∷ o ∷ x ∷ r)) 9
    (λ y bs8 l8. for_cons (λ r. P (t ∷ u ∷ v ∷ s ∷ w ∷ o ∷ x ∷ y ∷ r)) 8 (λ z bs9 l9.
    for_8 (λ r. P (t ∷ u ∷ v ∷ s ∷ w ∷ o ∷ x ∷ y ∷ z ∷ r)) (λ b c d e f g h i. each t u v s w o x y z b c d e f g h i) bs9 l9)
    bs8 l8) bs7 l7) bs6 l6) bs5 l5) bs4 l4) bs3 l3) bs2 l2) bs1 l1) bs long

-- # What is read is held

has_length : (bytes : List ℕ) (r : Register) → register_of bytes ≡ Ok r → (length bytes ≡ 17) × (tagged_register bytes (wrong_tag bytes) ≡ Ok r)
unfolding register_of
has_length bytes r e = grind (arith, nat_tests)

tagged_means : (bytes : List ℕ) (o : Option (ℕ × ℕ)) (r : Register) → tagged_register bytes o ≡ Ok r → (o ≡ None) × (has_sum bytes ≡ true) × (register_in bytes ≡ r)
tagged_means bytes (Some t) r e = absurd cc
tagged_means bytes None r e = grind (arith, nat_tests)

has_tags : (t u v s w o x a b c d e f g h y z : ℕ) → wrong_tag (t ∷ u ∷ v ∷ s ∷ w ∷ o ∷ x ∷ a ∷ b ∷ c ∷ d ∷ e ∷ f ∷ g ∷ h ∷ y ∷ z ∷ []) ≡ None
    → (t ≡ 130) × (u ≡ 12) × (v ≡ 0) × (y ≡ 121)
has_tags t u v s w o x a b c d e f g h y z none = grind (arith, nat_tests)

either : (z n : ℕ) → ((z == 0) || (n == 0)) ≡ true → (z ≡ 0) ⊎ (n ≡ 0)
either z n e = grind (arith, nat_tests)

-- seventeen bytes of which a register is read
held : (t u v s w o x a b c d e f g h y z : ℕ) (r : Register) → register_of (t ∷ u ∷ v ∷ s ∷ w ∷ o ∷ x ∷ a ∷ b ∷ c ∷ d ∷ e ∷ f ∷ g ∷ h ∷ y ∷ z ∷ []) ≡ Ok r
    → IsTemplateOf (t ∷ u ∷ v ∷ s ∷ w ∷ o ∷ x ∷ a ∷ b ∷ c ∷ d ∷ e ∷ f ∷ g ∷ h ∷ y ∷ z ∷ []) r
held t u v s w o x a b c d e f g h y z r is =
    let bytes = t ∷ u ∷ v ∷ s ∷ w ∷ o ∷ x ∷ a ∷ b ∷ c ∷ d ∷ e ∷ f ∷ g ∷ h ∷ y ∷ z ∷ [] in
    let address = a ∷ b ∷ c ∷ d ∷ e ∷ f ∷ g ∷ h ∷ [] in
    let parts = tagged_means bytes (wrong_tag bytes) r (has_length bytes r is).1 in
    let tags = has_tags t u v s w o x a b c d e f g h y z parts.0 in
    subst (λ r. IsTemplateOf bytes r) parts.2 (record {
      address = address;
      checksum = z;
      layout = rw (tags.0, tags.1, tags.2, tags.3) refl;
      eight = refl;
      number = refl;
      summed = either z (sum bytes % 256) parts.1;
    })

pub template_means : (bytes : List ℕ) (r : Register) → register_of bytes ≡ Ok r → IsTemplateOf bytes r
template_means bytes r e =
    for_17 (λ bs. register_of bs ≡ Ok r → IsTemplateOf bs r) (λ t u v s w o x a b c d e f g h y z is. held t u v s w o x a b c d e f g h y z r is) bytes (has_length bytes r e).0 e

-- # What is held is read

has_sum_of : (z n : ℕ) → (z ≡ 0) ⊎ (n ≡ 0) → ((z == 0) || (n == 0)) ≡ true
has_sum_of z n (inl e) = grind (arith, nat_tests)
has_sum_of z n (inr e) = grind (arith, nat_tests)

-- the bytes of a template around those of the address
abbrev around : Register → ℕ → List ℕ → List ℕ
around r checksum address = 130 ∷ 12 ∷ 0 ∷ r.space ∷ r.width ∷ r.offset ∷ r.access ∷ address ++ 121 ∷ checksum ∷ []

pub template_read : (bytes : List ℕ) (r : Register) → IsTemplateOf bytes r → register_of bytes ≡ Ok r
unfolding register_of
template_read bytes r h =
    let Reads : List ℕ → Type 0 = λ address. from_le_bytes w64 address ≡ r.address → (h.checksum ≡ 0) ⊎ (sum (around r h.checksum address) % 256 ≡ 0)
    → register_of (around r h.checksum address) ≡ Ok r in
    let here = for_8 Reads (λ a b c d e f g i number summed.
    rw (has_sum_of h.checksum (sum (around r h.checksum (a ∷ b ∷ c ∷ d ∷ e ∷ f ∷ g ∷ i ∷ [])) % 256) summed)
    (ap (λ address. Ok (record r { address = address })) number)) h.address h.eight in
    rw h.layout (here h.number (subst (λ bs. (h.checksum ≡ 0) ⊎ (sum bs % 256 ≡ 0)) h.layout h.summed))
