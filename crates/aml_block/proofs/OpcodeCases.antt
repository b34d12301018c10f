-- Which term an opcode begins.
use Rattle.std.proofs.Common.{◌≡◌, ◌<◌, ◌+◌, ◌-◌, ℕ, Bool, true, false, eqb, ltb, ◌||◌, List, [], ◌∷◌, ◌++◌, Ok, refl, ap, sym, subst, ◌∙◌, arith, inl, inr}
use Rattle.std.proofs.lemmas.Bool.{eqb-true}
use Rattle.std.proofs.lemmas.Bool.Decides.{nat_tests}
use Rattle.aml_data.specs.declared.opcode.TheConstants.{EXT_OP_PREFIX}
use Rattle.aml_block.specs.declared.opcode.TheConstants.{EXTENDED, ALIAS_OP, NAME_OP, SCOPE_OP, METHOD_OP, EXTERNAL_OP, IF_OP, ELSE_OP, WHILE_OP, MUTEX_OP, EVENT_OP}
use Rattle.aml_block.specs.declared.opcode.TheConstants.{OP_REGION_OP, FIELD_OP, DEVICE_OP, PROCESSOR_OP, POWER_RES_OP, THERMAL_ZONE_OP, INDEX_FIELD_OP, BANK_FIELD_OP}
use Rattle.aml_block.specs.Opcodes.{opcode_bytes, is_plain, is_holder, is_unread, is_term}
use Rattle.aml_block.specs.inner.ReadingParts.{opcode_at}
use Rattle.pw_base.proofs.Facts.{choice}

pub data OpcodeCase : ℕ → Type 0 where
  begins_name_term : OpcodeCase NAME_OP
  begins_alias : OpcodeCase ALIAS_OP
  begins_external : OpcodeCase EXTERNAL_OP
  begins_mutex : OpcodeCase MUTEX_OP
  begins_event : OpcodeCase EVENT_OP
  begins_region : OpcodeCase OP_REGION_OP
  begins_holder : {opcode : ℕ} → is_holder opcode ≡ true → OpcodeCase opcode
  begins_unread : {opcode : ℕ} → is_unread opcode ≡ true → OpcodeCase opcode
  begins_nothing : {opcode : ℕ} → is_term opcode ≡ false → OpcodeCase opcode

-- an opcode is this number, or it isn't
pub or_else : (P : ℕ → Type 0) (opcode k : ℕ) → P k → (eqb opcode k ≡ false → P opcode) → P opcode
or_else P opcode k here other =
    elim (choice (eqb opcode k)) [
      | inl h ↦ subst P (sym (eqb-true opcode k h)) here
      | inr h ↦ other h
    ]

pub opcode_case : (opcode : ℕ) → OpcodeCase opcode
opcode_case opcode =
    or_else OpcodeCase opcode NAME_OP begins_name_term (λ a.
    or_else OpcodeCase opcode ALIAS_OP begins_alias (λ b.
    or_else OpcodeCase opcode EXTERNAL_OP begins_external (λ c.
    or_else OpcodeCase opcode MUTEX_OP begins_mutex (λ d.
    or_else OpcodeCase opcode EVENT_OP begins_event (λ e.
    or_else OpcodeCase opcode OP_REGION_OP begins_region (λ f.
    elim (choice (is_holder opcode)) [
      | inl g ↦ begins_holder g
      | inr g ↦
          elim (choice (is_unread opcode)) [
            | inl u ↦ begins_unread u
            | inr u ↦ begins_nothing (rw (a, b, c, d, e, f, g, u) refl)
          ]
    ]))))))

-- what holds of each opcode whose body isn't read
pub unread_cases : (P : ℕ → Type 0) → P METHOD_OP → P IF_OP → P ELSE_OP → P WHILE_OP → P FIELD_OP → P POWER_RES_OP → P THERMAL_ZONE_OP → P INDEX_FIELD_OP → P BANK_FIELD_OP → (opcode : ℕ)
    → is_unread opcode ≡ true → P opcode
unread_cases P p1 p2 p3 p4 p5 p6 p7 p8 p9 opcode is =
    or_else P opcode METHOD_OP p1 (λ a.
    or_else P opcode IF_OP p2 (λ b.
    or_else P opcode ELSE_OP p3 (λ c.
    or_else P opcode WHILE_OP p4 (λ d.
    or_else P opcode FIELD_OP p5 (λ e.
    or_else P opcode POWER_RES_OP p6 (λ f.
    or_else P opcode THERMAL_ZONE_OP p7 (λ g.
    or_else P opcode INDEX_FIELD_OP p8 (λ h.
    or_else P opcode BANK_FIELD_OP p9 (λ i.
    absurd (let none : is_unread opcode ≡ false = rw (a, b, c, d, e, f, g, h, i) refl in let impossible : false ≡ true = sym none ∙ is in cc))))))))))

-- what holds of each opcode whose term holds terms
pub holder_cases : (P : ℕ → Type 0) → P SCOPE_OP → P DEVICE_OP → P PROCESSOR_OP → (opcode : ℕ) → is_holder opcode ≡ true → P opcode
holder_cases P p1 p2 p3 opcode is =
    or_else P opcode SCOPE_OP p1 (λ a.
    or_else P opcode DEVICE_OP p2 (λ b.
    or_else P opcode PROCESSOR_OP p3 (λ c.
    absurd (let none : is_holder opcode ≡ false = rw (a, b, c) refl in let impossible : false ≡ true = sym none ∙ is in cc))))

-- an opcode that fails a test is none that passes it
pub test_ne : (test : ℕ → Bool) (opcode k : ℕ) → test opcode ≡ false → test k ≡ true → eqb opcode k ≡ false
test_ne test opcode k fails passes =
    elim (choice (eqb opcode k)) [
      | inl h ↦ absurd (let impossible : false ≡ true = sym fails ∙ ap test (eqb-true opcode k h) ∙ passes in cc)
      | inr h ↦ h
    ]

last_false : (a b c : Bool) → (a || b || c) ≡ false → c ≡ false
last_false a b false e = refl
last_false false false true e = cc
last_false false true true e = absurd cc
last_false true b true e = absurd cc

middle_false : (a b c : Bool) → (a || b || c) ≡ false → b ≡ false
middle_false a false c e = refl
middle_false false true c e = absurd cc
middle_false true true c e = absurd cc

pub not_holder : (opcode : ℕ) → is_term opcode ≡ false → is_holder opcode ≡ false
not_holder opcode none = middle_false (is_plain opcode) (is_holder opcode) (is_unread opcode) none

pub not_unread : (opcode : ℕ) → is_term opcode ≡ false → is_unread opcode ≡ false
not_unread opcode none = last_false (is_plain opcode) (is_holder opcode) (is_unread opcode) none

-- ---- the bytes of an opcode

pub one_byte_opcode : (lead : ℕ) → lead < 0x100 → opcode_bytes lead ≡ lead ∷ []
one_byte_opcode lead lt = let e : ltb lead 0x100 ≡ true = grind (arith, nat_tests) in rw e refl

pub two_byte_opcode : (b : ℕ) → opcode_bytes (EXTENDED + b) ≡ EXT_OP_PREFIX ∷ b ∷ []
two_byte_opcode b =
    let e : ltb (EXTENDED + b) 0x100 ≡ false = grind (arith, nat_tests) in
    let k : EXTENDED + b - EXTENDED ≡ b = omega arith in
    rw (e, k) refl

pub unread_opcode : (opcode end : ℕ) (rest : List ℕ) → is_unread opcode ≡ true → opcode_at end (opcode_bytes opcode ++ rest) ≡ Ok (opcode, rest)
unfolding opcode_at
unread_opcode opcode end rest is = unread_cases (λ (n : ℕ). opcode_at end (opcode_bytes n ++ rest) ≡ Ok (n, rest)) refl refl refl refl refl refl refl refl refl opcode is

pub unread_is_term : (opcode : ℕ) → is_unread opcode ≡ true → is_term opcode ≡ true
unread_is_term opcode is = unread_cases (λ (n : ℕ). is_term n ≡ true) refl refl refl refl refl refl refl refl refl opcode is
