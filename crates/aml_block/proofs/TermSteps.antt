-- The four laws of terms: read, so spelled; spelled, so read, whatever follows; read as a fault, so the first fault; and back.
use Rattle.std.proofs.Common.{◌≡◌, ◌≢◌, ◌<◌, ◌+◌, ◌-◌, ℕ, zero, suc, true, false, eqb, List, [], ◌∷◌, ◌++◌, length, Option, Ok, Err, refl, sym, ap, subst, ◌∙◌, arith, inl, inr}
use Rattle.std.proofs.Common.{append_assoc}
use Rattle.std.proofs.lemmas.Bool.{eqb-true, eqb-false, ne_eqb}
use Rattle.aml_data.specs.declared.fault.DataFault.{DataFault}
use Rattle.aml_data.specs.declared.fault.DataFault.TheVariants.{Short, TooDeep}
use Rattle.aml_data.specs.Grammar.{Len}
use Rattle.aml_data.specs.Faults.{LenFails}
use Rattle.aml_data.specs.inner.Reading.{window_at}
use Rattle.aml_data.proofs.Steps.{IsBytes, IsBytes-rest, Takes}
use Rattle.aml_data.proofs.LengthSpellings.{window_takes, window_again, window_fails, window_refused}
use Rattle.aml_block.specs.declared.term.Term.{Term}
use Rattle.aml_block.specs.declared.term.Term.TheVariants.{Name, Unread, Alias, External, Mutex, Event, Region}
use Rattle.aml_block.specs.declared.term_fault.TermFault.{TermFault}
use Rattle.aml_block.specs.declared.term_fault.TermFault.TheVariants.{Data as in_data, BadTerm}
use Rattle.aml_block.specs.Opcodes.{opcode_bytes, is_term, is_holder, is_unread}
use Rattle.aml_block.specs.Grammar.{TermSpellsWithin, spells_name_term, spells_alias, spells_external, spells_mutex, spells_event, spells_region, spells_unread, spells_holder}
use Rattle.aml_block.specs.Layouts.{Head, HeadFails}
use Rattle.aml_data.specs.declared.opcode.TheConstants.{EXT_OP_PREFIX}
use Rattle.aml_block.specs.declared.opcode.TheConstants.{EXTENDED, ALIAS_OP, NAME_OP, EXTERNAL_OP, MUTEX_OP, EVENT_OP, OP_REGION_OP}
use Rattle.aml_block.specs.TermFaults.{TermFailsWithin, fails_no_term, fails_no_second, fails_opcode, fails_second, fails_in_name}
use Rattle.aml_block.specs.TermFaults.{fails_in_alias, fails_in_external}
use Rattle.aml_block.specs.TermFaults.{fails_in_mutex, fails_in_event, fails_in_region, fails_in_unread, fails_too_deep, fails_in_head, fails_in_inner_term, TermsFailWithin}
use Rattle.aml_data.specs.Layouts.{holds, SizedFails, fails_in_length, fails_inside}
use Rattle.aml_block.specs.inner.ReadingParts.{opcode_at}
use Rattle.aml_block.specs.inner.TermReading.{Read, name_term_at, alias_at, external_at, mutex_at, event_at, region_at, unread_at, holder_at}
use Rattle.aml_block.specs.inner.TermReading.{behind_opcode, term_by, within, term_within}
use Rattle.aml_block.proofs.PartLaws.{names, name_layout, alias_layout, external_layout, mutex_layout, region_layout, head_holds}
use Rattle.aml_block.proofs.Chains.{made_ok, made_err, err_is}
use Rattle.aml_block.proofs.OpcodeCases.{OpcodeCase, begins_name_term, begins_alias, begins_external, begins_mutex, begins_event, begins_region, begins_holder}
use Rattle.aml_block.proofs.OpcodeCases.{begins_unread, begins_nothing}
use Rattle.aml_block.proofs.OpcodeCases.{opcode_case, unread_cases, holder_cases, test_ne, not_holder, not_unread, one_byte_opcode, two_byte_opcode, unread_opcode}
use Rattle.aml_block.proofs.TermParts.{Takes-met, plain_takes, plain_again, plain_fails, plain_refused, TermLaws}
use Rattle.aml_block.proofs.Holders.{Inner, any_takes, any_again, any_fails, deep_refused, length_refused, head_refused, terms_refused}
use Rattle.pw_base.proofs.Facts.{choice}

-- ---- which reading an opcode asks for

unread_behind : (inner : Option (ℕ → List ℕ → Read Term)) (opcode at end : ℕ) (bytes : List ℕ) → is_unread opcode ≡ true → behind_opcode inner opcode at end bytes ≡ unread_at opcode end bytes
unfolding behind_opcode
unread_behind inner opcode at end bytes is =
    unread_cases (λ (n : ℕ). behind_opcode inner n at end bytes ≡ unread_at n end bytes) refl refl refl refl refl refl refl refl refl opcode is

holder_behind : (inner : Option (ℕ → List ℕ → Read Term)) (opcode at end : ℕ) (bytes : List ℕ) → is_holder opcode ≡ true → behind_opcode inner opcode at end bytes ≡ holder_at inner opcode at end bytes
unfolding behind_opcode
holder_behind inner opcode at end bytes is = holder_cases (λ (n : ℕ). behind_opcode inner n at end bytes ≡ holder_at inner n at end bytes) refl refl refl opcode is

nothing_behind : (inner : Option (ℕ → List ℕ → Read Term)) (opcode at end : ℕ) (bytes : List ℕ) → is_term opcode ≡ false → behind_opcode inner opcode at end bytes ≡ Err (BadTerm at opcode)
unfolding behind_opcode
nothing_behind inner opcode at end bytes none =
    rw (
      test_ne is_term opcode NAME_OP none refl,
      test_ne is_term opcode ALIAS_OP none refl,
      test_ne is_term opcode EXTERNAL_OP none refl,
      test_ne is_term opcode MUTEX_OP none refl,
      test_ne is_term opcode EVENT_OP none refl,
      test_ne is_term opcode OP_REGION_OP none refl,
      not_holder opcode none,
      not_unread opcode none,
    ) refl

-- ---- read, so spelled

-- what spells a term behind its opcode
abbrev Behind : ℕ → ℕ → Term → List ℕ → Type 0
Behind opcode depth term b = TermSpellsWithin depth term (opcode_bytes opcode ++ b)

unread_takes : (depth opcode end : ℕ) (bytes : List ℕ) (x : Term × List ℕ) → is_unread opcode ≡ true → IsBytes bytes → unread_at opcode end bytes ≡ Ok x → Takes (Behind opcode depth) bytes x
unfolding unread_at
unread_takes depth opcode end bytes x is fits e =
    let m = made_ok (λ body. Unread opcode body) (window_at end bytes) x e in
    let w = window_takes end bytes m.0 fits m.1 in
    Takes-met (Behind opcode depth) bytes (Unread opcode m.0.0, m.0.1) x m.2 (record {
      front = w.front ++ m.0.0;
      parts = w.parts ∙ sym (append_assoc w.front m.0.0 m.0.1);
      spelled = spells_unread is (holds w.front m.0.0 w.spelled);
      rest_fits = w.rest_fits;
    })

behind_takes : (depth : ℕ) (inner : Option (ℕ → List ℕ → Read Term)) → Inner depth inner → (opcode at end : ℕ) (bytes : List ℕ) (x : Term × List ℕ) → OpcodeCase opcode → IsBytes bytes
    → behind_opcode inner opcode at end bytes ≡ Ok x → Takes (Behind opcode depth) bytes x
unfolding behind_opcode name_term_at alias_at external_at mutex_at event_at region_at
behind_takes depth inner i opcode at end bytes x begins_name_term fits e =
    plain_takes _ _ _ name_layout (λ v. Name v.0 v.1) (Behind NAME_OP depth) (λ v b s. spells_name_term s) end bytes x fits e
behind_takes depth inner i opcode at end bytes x begins_alias fits e =
    plain_takes _ _ _ alias_layout (λ v. Alias v.0 v.1) (Behind ALIAS_OP depth) (λ v b s. spells_alias s) end bytes x fits e
behind_takes depth inner i opcode at end bytes x begins_external fits e =
    plain_takes _ _ _ external_layout (λ v. External v.0 v.1.0 v.1.1) (Behind EXTERNAL_OP depth) (λ v b s. spells_external s) end bytes x fits e
behind_takes depth inner i opcode at end bytes x begins_mutex fits e =
    plain_takes _ _ _ mutex_layout (λ v. Mutex v.0 v.1) (Behind MUTEX_OP depth) (λ v b s. spells_mutex s) end bytes x fits e
behind_takes depth inner i opcode at end bytes x begins_event fits e =
    plain_takes _ _ _ names (λ path. Event path) (Behind EVENT_OP depth) (λ v b s. spells_event s) end bytes x fits e
behind_takes depth inner i opcode at end bytes x begins_region fits e =
    plain_takes _ _ _ region_layout (λ v. Region v.0 v.1.0 v.1.1.0 v.1.1.1) (Behind OP_REGION_OP depth) (λ v b s. spells_region s) end bytes x fits e
behind_takes depth inner i opcode at end bytes x (begins_holder is) fits e =
    any_takes opcode is (Behind opcode) (λ d v ts p h b len s t. spells_holder h b (holds p (h ++ b) len) s t) depth inner i at end bytes x fits (sym (holder_behind inner opcode at end bytes is) ∙ e)
behind_takes depth inner i opcode at end bytes x (begins_unread is) fits e =
    unread_takes depth opcode end bytes x is fits (sym (unread_behind inner opcode at end bytes is) ∙ e)
behind_takes depth inner i opcode at end bytes x (begins_nothing none) fits e =
    absurd (let impossible = sym (nothing_behind inner opcode at end bytes none) ∙ e in cc)

-- ---- the opcode in front

by_one : (inner : Option (ℕ → List ℕ → Read Term)) (end lead : ℕ) (rest : List ℕ) → eqb lead EXT_OP_PREFIX ≡ false
    → term_by inner end (lead ∷ rest) ≡ behind_opcode inner lead (end - length (lead ∷ rest)) end rest
unfolding term_by opcode_at
by_one inner end lead rest e = rw e refl

by_two : (inner : Option (ℕ → List ℕ → Read Term)) (end b : ℕ) (rest : List ℕ)
    → term_by inner end (EXT_OP_PREFIX ∷ b ∷ rest) ≡ behind_opcode inner (EXTENDED + b) (end - length (EXT_OP_PREFIX ∷ b ∷ rest)) end rest
unfolding term_by opcode_at
by_two inner end b rest = refl

none_by : (inner : Option (ℕ → List ℕ → Read Term)) (end : ℕ) → term_by inner end [] ≡ Err (in_data (Short end))
unfolding term_by opcode_at
none_by inner end = refl

no_second_by : (inner : Option (ℕ → List ℕ → Read Term)) (end : ℕ) → term_by inner end (EXT_OP_PREFIX ∷ []) ≡ Err (in_data (Short end))
unfolding term_by opcode_at
no_second_by inner end = refl

with_front : (depth opcode : ℕ) (o bytes : List ℕ) (x : Term × List ℕ) → opcode_bytes opcode ≡ o → Takes (Behind opcode depth) bytes x → Takes (TermSpellsWithin depth) (o ++ bytes) x
with_front depth opcode o bytes x e t = record {
  front = o ++ t.front;
  parts = ap (λ (l : List ℕ). o ++ l) t.parts ∙ sym (append_assoc o t.front x.1);
  spelled = subst (λ (l : List ℕ). TermSpellsWithin depth x.0 (l ++ t.front)) e t.spelled;
  rest_fits = t.rest_fits;
}

two_takes : (depth : ℕ) (inner : Option (ℕ → List ℕ → Read Term)) → Inner depth inner → (end : ℕ) (rest : List ℕ) (x : Term × List ℕ) → IsBytes (EXT_OP_PREFIX ∷ rest)
    → term_by inner end (EXT_OP_PREFIX ∷ rest) ≡ Ok x
    → Takes (TermSpellsWithin depth) (EXT_OP_PREFIX ∷ rest) x
two_takes depth inner i end [] x fits e = absurd (let impossible = sym (no_second_by inner end) ∙ e in cc)
two_takes depth inner i end (b ∷ rest) x fits e =
    with_front depth (EXTENDED + b) (EXT_OP_PREFIX ∷ b ∷ []) rest x (two_byte_opcode b)
    (behind_takes depth inner i (EXTENDED + b) (end - length (EXT_OP_PREFIX ∷ b ∷ rest)) end rest x (opcode_case (EXTENDED + b)) (IsBytes-rest b rest (IsBytes-rest EXT_OP_PREFIX (b ∷ rest) fits))
    (sym (by_two inner end b rest) ∙ e))

by_takes : (depth : ℕ) (inner : Option (ℕ → List ℕ → Read Term)) → Inner depth inner → (end : ℕ) (bytes : List ℕ) (x : Term × List ℕ) → IsBytes bytes → term_by inner end bytes ≡ Ok x
    → Takes (TermSpellsWithin depth) bytes x
by_takes depth inner i end [] x fits e = absurd (let impossible = sym (none_by inner end) ∙ e in cc)
by_takes depth inner i end (lead ∷ rest) x fits e =
    elim (choice (eqb lead EXT_OP_PREFIX)) [
      | inl h ↦
          let is = eqb-true lead EXT_OP_PREFIX h in
          subst (λ (n : ℕ). Takes (TermSpellsWithin depth) (n ∷ rest) x) (sym is)
          (two_takes depth inner i end rest x (subst (λ (n : ℕ). IsBytes (n ∷ rest)) is fits) (subst (λ (n : ℕ). term_by inner end (n ∷ rest) ≡ Ok x) is e))
      | inr h ↦
          with_front depth lead (lead ∷ []) rest x (one_byte_opcode lead (fits 0))
          (behind_takes depth inner i lead (end - length (lead ∷ rest)) end rest x (opcode_case lead) (IsBytes-rest lead rest fits) (sym (by_one inner end lead rest h) ∙ e))
    ]

-- ---- spelled, so read

unread_again : (inner : Option (ℕ → List ℕ → Read Term)) (opcode end : ℕ) (p body rest : List ℕ) → is_unread opcode ≡ true → Len (length p + length body) p
    → term_by inner end ((opcode_bytes opcode ++ (p ++ body)) ++ rest) ≡ Ok (Unread opcode body, rest)
unfolding term_by unread_at
unread_again inner opcode end p body rest is len =
    let split : (opcode_bytes opcode ++ (p ++ body)) ++ rest ≡ opcode_bytes opcode ++ (p ++ (body ++ rest)) = simp append_assoc refl in
    rw (split, unread_opcode opcode end (p ++ (body ++ rest)) is) (unread_behind inner opcode _ end (p ++ (body ++ rest)) is ∙ rw (window_again end p body rest len) refl)

by_holder : (inner : Option (ℕ → List ℕ → Read Term)) (end opcode : ℕ) (rest : List ℕ) → is_holder opcode ≡ true
    → term_by inner end (opcode_bytes opcode ++ rest) ≡ holder_at inner opcode (end - length (opcode_bytes opcode ++ rest)) end rest
unfolding term_by opcode_at behind_opcode
by_holder inner end opcode rest is =
    holder_cases (λ (n : ℕ). term_by inner end (opcode_bytes n ++ rest) ≡ holder_at inner n (end - length (opcode_bytes n ++ rest)) end rest) refl refl refl opcode is

by_again : (depth : ℕ) (inner : Option (ℕ → List ℕ → Read Term)) → Inner depth inner → (end : ℕ) (v : Term) (c rest : List ℕ) → TermSpellsWithin depth v c
    → term_by inner end (c ++ rest) ≡ Ok (v, rest)
unfolding term_by opcode_at behind_opcode name_term_at alias_at external_at mutex_at event_at region_at
by_again depth inner i end v c rest (spells_name_term {path = path} {value = value} {b = b} s) = plain_again _ _ _ name_layout (λ v. Name v.0 v.1) end (path, value) b rest s
by_again depth inner i end v c rest (spells_alias {source = source} {alias = alias} {b = b} s) = plain_again _ _ _ alias_layout (λ v. Alias v.0 v.1) end (source, alias) b rest s
by_again depth inner i end v c rest (spells_external {kind = kind} {args = args} {path = path} {b = b} s) =
    plain_again _ _ _ external_layout (λ v. External v.0 v.1.0 v.1.1) end (path, (kind, args)) b rest s
by_again depth inner i end v c rest (spells_mutex {flags = flags} {path = path} {b = b} s) = plain_again _ _ _ mutex_layout (λ v. Mutex v.0 v.1) end (path, flags) b rest s
by_again depth inner i end v c rest (spells_event {path = path} {b = b} s) = plain_again _ _ _ names (λ path. Event path) end path b rest s
by_again depth inner i end v c rest (spells_region {space = space} {offset = offset} {len = len} {path = path} {b = b} s) =
    plain_again _ _ _ region_layout (λ v. Region v.0 v.1.0 v.1.1.0 v.1.1.1) end (path, (space, (offset, len))) b rest s
by_again depth inner i end v c rest (spells_unread {opcode = opcode} {body = body} is (holds p _ len)) = unread_again inner opcode end p body rest is len
by_again (suc depth) inner i end v c rest (spells_holder {opcode = opcode} {make = make} {terms = terms} h body (holds p _ len) s ts) =
    let is = head_holds opcode make h s in
    let split = append_assoc (opcode_bytes opcode) (p ++ (h ++ body)) rest in
    rw split (by_holder inner end opcode ((p ++ (h ++ body)) ++ rest) is ∙ any_again opcode is depth inner i _ end make terms p h body rest len s ts)

-- ---- read as a fault, so the first fault

unread_fails : (depth opcode end : ℕ) (bytes : List ℕ) (fault : TermFault) → is_unread opcode ≡ true → IsBytes bytes → unread_at opcode end bytes ≡ Err fault
    → TermFailsWithin depth end (opcode_bytes opcode ++ bytes) fault
unfolding unread_at
unread_fails depth opcode end bytes fault is fits e =
    let m = made_err (λ body. Unread opcode body) (window_at end bytes) fault e in
    subst (λ (f : TermFault). TermFailsWithin depth end (opcode_bytes opcode ++ bytes) f) m.2 (fails_in_unread opcode bytes is (window_fails end bytes m.0 fits m.1))

-- a fault behind an opcode
abbrev FailsBehind : List ℕ → ℕ → List ℕ → ℕ → TermFault → Type 0
FailsBehind o end bytes depth fault = TermFailsWithin depth end (o ++ bytes) fault

held_fails : (F : ℕ → List ℕ → DataFault → Type 0) (end : ℕ) (p inside rest : List ℕ) (d : DataFault) → Len (length p + length inside) p → F (end - length rest) inside d
    → SizedFails F end (p ++ (inside ++ rest)) d
held_fails F end p inside rest d len h = subst (λ (l : List ℕ). SizedFails F end l d) (append_assoc p inside rest) (fails_inside (p ++ inside) rest (holds p inside len) h)

inner_fails : (depth end opcode : ℕ) (make : List Term → Term) (p h body rest : List ℕ) (f : TermFault) → Len (length p + length (h ++ body)) p → Head opcode make h
    → TermsFailWithin depth (end - length rest) body f → TermFailsWithin (suc depth) end (opcode_bytes opcode ++ (p ++ ((h ++ body) ++ rest))) f
inner_fails depth end opcode make p h body rest f len s t =
    subst (λ (l : List ℕ). TermFailsWithin (suc depth) end (opcode_bytes opcode ++ l) f) (append_assoc p (h ++ body) rest) (fails_in_inner_term h body rest (holds p (h ++ body) len) s t)

holder_fails : (depth : ℕ) (inner : Option (ℕ → List ℕ → Read Term)) → Inner depth inner → (opcode at end : ℕ) (bytes : List ℕ) (fault : TermFault) → is_holder opcode ≡ true
    → at ≡ end - length (opcode_bytes opcode ++ bytes) → IsBytes bytes → holder_at inner opcode at end bytes ≡ Err fault → TermFailsWithin depth end (opcode_bytes opcode ++ bytes) fault
holder_fails depth inner i opcode at end bytes fault is place fits e =
    any_fails opcode is (FailsBehind (opcode_bytes opcode) end bytes) at end bytes
    (subst (λ (k : ℕ). TermFailsWithin zero end (opcode_bytes opcode ++ bytes) (in_data (TooDeep k))) (sym place) (fails_too_deep opcode bytes is))
    (λ d f h. fails_in_head opcode bytes is (fails_in_length h))
    (λ d p inside rest f parts len h. rw parts (fails_in_head opcode (p ++ (inside ++ rest)) is (held_fails (HeadFails opcode) end p inside rest f len h)))
    (λ d v p h body rest f parts len s t. rw parts (inner_fails d end opcode v p h body rest f len s t))
    depth inner i fault fits e

behind_fails : (depth : ℕ) (inner : Option (ℕ → List ℕ → Read Term)) → Inner depth inner → (opcode at end : ℕ) (bytes : List ℕ) (fault : TermFault) → OpcodeCase opcode
    → at ≡ end - length (opcode_bytes opcode ++ bytes) → (is_term opcode ≡ false → TermFailsWithin depth end (opcode_bytes opcode ++ bytes) (BadTerm at opcode)) → IsBytes bytes
    → behind_opcode inner opcode at end bytes ≡ Err fault → TermFailsWithin depth end (opcode_bytes opcode ++ bytes) fault
unfolding behind_opcode name_term_at alias_at external_at mutex_at event_at region_at
behind_fails depth inner i opcode at end bytes fault begins_name_term place none fits e =
    plain_fails _ _ _ name_layout (λ v. Name v.0 v.1) (FailsBehind (opcode_bytes NAME_OP) end bytes depth) end bytes (λ d h. fails_in_name h) fault fits e
behind_fails depth inner i opcode at end bytes fault begins_alias place none fits e =
    plain_fails _ _ _ alias_layout (λ v. Alias v.0 v.1) (FailsBehind (opcode_bytes ALIAS_OP) end bytes depth) end bytes (λ d h. fails_in_alias h) fault fits e
behind_fails depth inner i opcode at end bytes fault begins_external place none fits e =
    plain_fails _ _ _ external_layout (λ v. External v.0 v.1.0 v.1.1) (FailsBehind (opcode_bytes EXTERNAL_OP) end bytes depth) end bytes (λ d h. fails_in_external h) fault fits e
behind_fails depth inner i opcode at end bytes fault begins_mutex place none fits e =
    plain_fails _ _ _ mutex_layout (λ v. Mutex v.0 v.1) (FailsBehind (opcode_bytes MUTEX_OP) end bytes depth) end bytes (λ d h. fails_in_mutex h) fault fits e
behind_fails depth inner i opcode at end bytes fault begins_event place none fits e =
    plain_fails _ _ _ names (λ path. Event path) (FailsBehind (opcode_bytes EVENT_OP) end bytes depth) end bytes (λ d h. fails_in_event h) fault fits e
behind_fails depth inner i opcode at end bytes fault begins_region place none fits e =
    plain_fails _ _ _ region_layout (λ v. Region v.0 v.1.0 v.1.1.0 v.1.1.1) (FailsBehind (opcode_bytes OP_REGION_OP) end bytes depth) end bytes (λ d h. fails_in_region h) fault fits e
behind_fails depth inner i opcode at end bytes fault (begins_holder is) place none fits e =
    holder_fails depth inner i opcode at end bytes fault is place fits (sym (holder_behind inner opcode at end bytes is) ∙ e)
behind_fails depth inner i opcode at end bytes fault (begins_unread is) place none fits e =
    unread_fails depth opcode end bytes fault is fits (sym (unread_behind inner opcode at end bytes is) ∙ e)
behind_fails depth inner i opcode at end bytes fault (begins_nothing not) place none fits e =
    subst (λ (f : TermFault). TermFailsWithin depth end (opcode_bytes opcode ++ bytes) f) (err_is {A = Term × List ℕ} _ fault (sym (nothing_behind inner opcode at end bytes not) ∙ e)) (none not)

two_fails : (depth : ℕ) (inner : Option (ℕ → List ℕ → Read Term)) → Inner depth inner → (end : ℕ) (rest : List ℕ) (fault : TermFault) → IsBytes (EXT_OP_PREFIX ∷ rest)
    → term_by inner end (EXT_OP_PREFIX ∷ rest) ≡ Err fault
    → TermFailsWithin depth end (EXT_OP_PREFIX ∷ rest) fault
two_fails depth inner i end [] fault fits e =
    subst (λ (f : TermFault). TermFailsWithin depth end (EXT_OP_PREFIX ∷ []) f) (err_is {A = Term × List ℕ} _ fault (sym (no_second_by inner end) ∙ e)) fails_no_second
two_fails depth inner i end (b ∷ rest) fault fits e =
    let o = two_byte_opcode b in
    subst (λ (l : List ℕ). TermFailsWithin depth end (l ++ rest) fault) o
    (behind_fails depth inner i (EXTENDED + b) (end - length (EXT_OP_PREFIX ∷ b ∷ rest)) end rest fault (opcode_case (EXTENDED + b)) (ap (λ (l : List ℕ). end - length (l ++ rest)) (sym o))
    (λ none. subst (λ (l : List ℕ). TermFailsWithin depth end (l ++ rest) (BadTerm (end - length (EXT_OP_PREFIX ∷ b ∷ rest)) (EXTENDED + b))) (sym o) (fails_second none))
    (IsBytes-rest b rest (IsBytes-rest EXT_OP_PREFIX (b ∷ rest) fits)) (sym (by_two inner end b rest) ∙ e))

by_fails : (depth : ℕ) (inner : Option (ℕ → List ℕ → Read Term)) → Inner depth inner → (end : ℕ) (bytes : List ℕ) (fault : TermFault) → IsBytes bytes → term_by inner end bytes ≡ Err fault
    → TermFailsWithin depth end bytes fault
by_fails depth inner i end [] fault fits e = subst (λ (f : TermFault). TermFailsWithin depth end [] f) (err_is {A = Term × List ℕ} _ fault (sym (none_by inner end) ∙ e)) fails_no_term
by_fails depth inner i end (lead ∷ rest) fault fits e =
    elim (choice (eqb lead EXT_OP_PREFIX)) [
      | inl h ↦
          let is = eqb-true lead EXT_OP_PREFIX h in
          subst (λ (n : ℕ). TermFailsWithin depth end (n ∷ rest) fault) (sym is)
          (two_fails depth inner i end rest fault (subst (λ (n : ℕ). IsBytes (n ∷ rest)) is fits) (subst (λ (n : ℕ). term_by inner end (n ∷ rest) ≡ Err fault) is e))
      | inr h ↦
          let o = one_byte_opcode lead (fits 0) in
          subst (λ (l : List ℕ). TermFailsWithin depth end (l ++ rest) fault) o
          (behind_fails depth inner i lead (end - length (lead ∷ rest)) end rest fault (opcode_case lead) (ap (λ (l : List ℕ). end - length (l ++ rest)) (sym o))
          (λ none. subst (λ (l : List ℕ). TermFailsWithin depth end (l ++ rest) (BadTerm (end - length (lead ∷ rest)) lead)) (sym o) (fails_opcode (eqb-false lead EXT_OP_PREFIX h) none))
          (IsBytes-rest lead rest fits) (sym (by_one inner end lead rest h) ∙ e))
    ]

-- ---- the first fault, so read as it

unread_refused : (inner : Option (ℕ → List ℕ → Read Term)) (opcode end : ℕ) (bytes : List ℕ) (d : DataFault) → is_unread opcode ≡ true → LenFails end bytes d
    → term_by inner end (opcode_bytes opcode ++ bytes) ≡ Err (in_data d)
unfolding term_by unread_at
unread_refused inner opcode end bytes d is h = rw (unread_opcode opcode end bytes is) (unread_behind inner opcode _ end bytes is ∙ rw (window_refused end bytes d h) refl)

nothing_refused : (inner : Option (ℕ → List ℕ → Read Term)) (end lead : ℕ) (rest : List ℕ) → lead ≢ EXT_OP_PREFIX → is_term lead ≡ false
    → term_by inner end (lead ∷ rest) ≡ Err (BadTerm (end - length (lead ∷ rest)) lead)
nothing_refused inner end lead rest ne none = by_one inner end lead rest (ne_eqb lead EXT_OP_PREFIX ne) ∙ nothing_behind inner lead (end - length (lead ∷ rest)) end rest none

too_deep_refused : (inner : Option (ℕ → List ℕ → Read Term)) → Inner zero inner → (end opcode : ℕ) (rest : List ℕ) → is_holder opcode ≡ true
    → term_by inner end (opcode_bytes opcode ++ rest) ≡ Err (in_data (TooDeep (end - length (opcode_bytes opcode ++ rest))))
too_deep_refused inner i end opcode rest is = by_holder inner end opcode rest is ∙ deep_refused opcode is inner i _ end rest

held_refused : (depth : ℕ) (inner : Option (ℕ → List ℕ → Read Term)) → Inner (suc depth) inner → (end opcode : ℕ) (rest : List ℕ) (d : DataFault) → is_holder opcode ≡ true
    → SizedFails (HeadFails opcode) end rest d → term_by inner end (opcode_bytes opcode ++ rest) ≡ Err (in_data d)
held_refused depth inner i end opcode rest d is (fails_in_length h) = by_holder inner end opcode rest is ∙ length_refused opcode is depth inner i _ end rest d h
held_refused depth inner i end opcode _ d is (fails_inside {content = inside} _ rest (holds p _ len) h) =
    rw (append_assoc p inside rest) (by_holder inner end opcode (p ++ (inside ++ rest)) is ∙ head_refused opcode is depth inner i _ end p inside rest d len h)

by_refused : (depth : ℕ) (inner : Option (ℕ → List ℕ → Read Term)) → Inner depth inner → (end : ℕ) (bytes : List ℕ) (fault : TermFault) → TermFailsWithin depth end bytes fault
    → term_by inner end bytes ≡ Err fault
unfolding term_by opcode_at behind_opcode name_term_at alias_at external_at mutex_at event_at region_at
by_refused depth inner i end _ _ fails_no_term = refl
by_refused depth inner i end _ _ fails_no_second = refl
by_refused depth inner i end _ _ (fails_opcode {lead = lead} {rest = rest} ne none) = nothing_refused inner end lead rest ne none
by_refused depth inner i end _ _ (fails_second {b = b} {rest = rest} none) = nothing_behind inner (EXTENDED + b) _ end rest none
by_refused depth inner i end _ _ (fails_in_name {rest = rest} {fault = d} h) = plain_refused _ _ _ name_layout (λ v. Name v.0 v.1) end rest d h
by_refused depth inner i end _ _ (fails_in_alias {rest = rest} {fault = d} h) = plain_refused _ _ _ alias_layout (λ v. Alias v.0 v.1) end rest d h
by_refused depth inner i end _ _ (fails_in_external {rest = rest} {fault = d} h) = plain_refused _ _ _ external_layout (λ v. External v.0 v.1.0 v.1.1) end rest d h
by_refused depth inner i end _ _ (fails_in_mutex {rest = rest} {fault = d} h) = plain_refused _ _ _ mutex_layout (λ v. Mutex v.0 v.1) end rest d h
by_refused depth inner i end _ _ (fails_in_event {rest = rest} {fault = d} h) = plain_refused _ _ _ names (λ path. Event path) end rest d h
by_refused depth inner i end _ _ (fails_in_region {rest = rest} {fault = d} h) = plain_refused _ _ _ region_layout (λ v. Region v.0 v.1.0 v.1.1.0 v.1.1.1) end rest d h
by_refused depth inner i end _ _ (fails_in_unread {fault = d} opcode rest is h) = unread_refused inner opcode end rest d is h
by_refused zero inner i end _ _ (fails_too_deep opcode rest is) = too_deep_refused inner i end opcode rest is
by_refused (suc depth) inner i end _ _ (fails_in_head {fault = d} opcode rest is h) = held_refused depth inner i end opcode rest d is h
by_refused (suc depth) inner i end _ _ (fails_in_inner_term {opcode = opcode} {make = make} {fault = f} h body rest (holds p _ len) s t) =
    let is = head_holds opcode make h s in
    rw (append_assoc p (h ++ body) rest)
    (by_holder inner end opcode (p ++ ((h ++ body) ++ rest)) is ∙ terms_refused opcode is depth inner i _ end make p h body rest f len s t)

-- ---- a term has a byte

opcode_some : (opcode : ℕ) (rest : List ℕ) → is_unread opcode ≡ true → 0 < length (opcode_bytes opcode ++ rest)
opcode_some opcode rest is =
    unread_cases (λ (n : ℕ). 0 < length (opcode_bytes n ++ rest)) (omega arith) (omega arith) (omega arith) (omega arith) (omega arith) (omega arith) (omega arith) (omega arith) (omega arith)
    opcode is

holder_some : (opcode : ℕ) (rest : List ℕ) → is_holder opcode ≡ true → 0 < length (opcode_bytes opcode ++ rest)
holder_some opcode rest is = holder_cases (λ (n : ℕ). 0 < length (opcode_bytes n ++ rest)) (omega arith) (omega arith) (omega arith) opcode is

some_byte : (depth : ℕ) (v : Term) (c : List ℕ) → TermSpellsWithin depth v c → 0 < length c
some_byte depth v c (spells_name_term s) = omega arith
some_byte depth v c (spells_alias s) = omega arith
some_byte depth v c (spells_external s) = omega arith
some_byte depth v c (spells_mutex s) = omega arith
some_byte depth v c (spells_event s) = omega arith
some_byte depth v c (spells_region s) = omega arith
some_byte depth v c (spells_unread {opcode = opcode} {b = b} is held) = opcode_some opcode b is
some_byte depth v c (spells_holder {opcode = opcode} {make = make} {b = b} h body held s ts) = holder_some opcode b (head_holds opcode make h s)

by_laws : (depth : ℕ) (inner : Option (ℕ → List ℕ → Read Term)) → Inner depth inner → TermLaws depth (term_by inner)
by_laws depth inner i = record {
  takes = by_takes depth inner i;
  again = by_again depth inner i;
  fails = by_fails depth inner i;
  refused = by_refused depth inner i;
  some = some_byte depth;
}

pub term_laws : (depth : ℕ) → TermLaws depth (term_within depth)
unfolding within
term_laws zero = by_laws zero (within zero) tt
term_laws (suc depth) = by_laws (suc depth) (within (suc depth)) (term_laws depth)
