-- The lines that tell of entries.
use Rattle.std.proofs.Common.{◌≡◌, ◌<◌, ◌+◌, ◌∙◌, ℕ, List, [], ◌∷◌, ◌++◌, map, length, codes, decimal, get_or, Option, Some, None, refl, ap, ap₂, sym, subst, inl, inr, arith, append_assoc, append-nil}
use Rattle.std.specs.List.{AllByRecursion}
use Rattle.std.proofs.lemmas.List.{append_cancel_left, length-map}
use Rattle.acpi_values.specs.declared.operation.Op.{Op}
use Rattle.acpi_values.specs.declared.operation.Op.TheVariants.{Set, Enter}
use Rattle.pw_text.specs.Text.{hex_text}
use Rattle.pw_text.specs.HistoryText.{register_text}
use Rattle.pw_text.specs.Behind.{behind}
use Rattle.pw_audit.specs.declared.form.Form.{Form}
use Rattle.pw_audit.specs.declared.form.Form.TheVariants.{History, Trace}
use Rattle.pw_audit.specs.inner.Looking.{IsWord}
use Rattle.pw_audit.proofs.Orders.{same_length, split_same}
use Rattle.pw_kind.specs.History as histories
use Rattle.pw_history.specs.HistoryText.{entry_line, history_lines, lines_from, op_line, opening_lines}
use Rattle.pw_history.specs.Telling.{IsNarrowFault, Over, TextsTell}
use Rattle.pw_history.specs.Wording.{Wording}
use Rattle.pw_history.proofs.Cuts.{AllOver, over-test}
use Rattle.pw_history.proofs.Determined.{entry_line-over, head-opening, head_of, heads-tell, lines-over, tail_of}
use Rattle.pw_history.proofs.Alike.{after-alike, ops-alike}
use Rattle.pw_history.proofs.Each.{each_append, each_map}
use Rattle.pw_kind.proofs.Joining.{each_first}
use Rattle.pw_audit.specs.Tracing.{Opens, Tells, TellsOps, op_cpu}
use Rattle.pw_history.proofs.Numbers.{decimal_some}
use Rattle.pw_history.specs.HistoryText as texts

nothing : {x : List ℕ} {xs : List (List ℕ)} → x ∷ xs ≡ [] → ⊥
nothing e = cc

module _ {Plan Request Reply Entry State : Type 0} (W : Wording Plan Request Reply Entry State) where
  -- # Operations

  pub ops_length : (form : Form) (plan : Plan) (ops : List Op) (ls : List (List ℕ)) → TellsOps W form plan ops ls → length ls ≡ length ops
  ops_length History plan ops ls told = ap (λ (l : List (List ℕ)). length l) told ∙ length-map ops (op_line W plan)
  ops_length Trace plan ops ls told = ap (λ (l : List (List ℕ)). length l) told.is ∙ length-map told.done (op_line W plan) ∙ same_length told.done ops told.same

  pub ops_listed : (form : Form) (plan : Plan) (ops : List Op) → TellsOps W form plan ops (map (op_line W plan) ops)
  ops_listed History plan ops = refl
  ops_listed Trace plan ops = record { done = ops; same = λ p. refl; is = refl }

module _ {Plan Request Reply Entry State : Type 0} {W : Wording Plan Request Reply Entry State} {IsNarrow : Entry → Type 0} {IsNarrowRequest : Request → Type 0} where
  listed_over : (plan : Plan) (tell : TextsTell W plan IsNarrow IsNarrowRequest) (ops : List Op) → AllOver 10 (map (op_line W plan) ops)
  listed_over plan tell ops = each_map (Over 10) (op_line W plan) ops (λ o. tell.words.operations o)

  ops_over : (form : Form) (plan : Plan) (tell : TextsTell W plan IsNarrow IsNarrowRequest) (ops : List Op) (ls : List (List ℕ)) → TellsOps W form plan ops ls → AllOver 10 ls
  ops_over History plan tell ops ls told = subst (AllOver 10) (sym told) (listed_over plan tell ops)
  ops_over Trace plan tell ops ls told = subst (AllOver 10) (sym told.is) (listed_over plan tell told.done)

module _ {Plan Request Reply Entry State : Type 0} (W : Wording Plan Request Reply Entry State) where
  -- # Entries

  module _ (form : Form) (plan : Plan) where
    pub tells_listed : (es : List Entry) (S : State) (n : ℕ) → Tells W form plan S n es (lines_from W plan S n es)
    tells_listed [] S n = refl
    tells_listed (e ∷ es) S n = record {
      ops = map (op_line W plan) (histories.entry_ops W.kind plan S e);
      tells = ops_listed W form plan (histories.entry_ops W.kind plan S e);
      later = lines_from W plan (histories.after_entry W.kind plan S e) (n + 1) es;
      goes_on = tells_listed es (histories.after_entry W.kind plan S e) (n + 1);
      is = refl;
    }

    pub tells_append : (es fs : List Entry) (S : State) (n : ℕ) (X Y : List (List ℕ)) → Tells W form plan S n es X → Tells W form plan (histories.replay_from W.kind plan S es) (n + length es) fs Y
        → Tells W form plan S n (es ++ fs) (X ++ Y)
    tells_append [] fs S n X Y t u =
        let number : n + 0 ≡ n = omega arith in
        subst (λ (ls : List (List ℕ)). Tells W form plan S n fs (ls ++ Y)) (sym t) (subst (λ (m : ℕ). Tells W form plan S m fs Y) number u)
    tells_append (e ∷ es) fs S n X Y t u =
        let number : n + length (e ∷ es) ≡ n + 1 + length es = omega arith in
        record {
          ops = t.ops;
          tells = t.tells;
          later = t.later ++ Y;
          goes_on = tells_append es fs (histories.after_entry W.kind plan S e) (n + 1) t.later Y t.goes_on
              (subst (λ (m : ℕ). Tells W form plan (histories.replay_from W.kind plan S (e ∷ es)) m fs Y) number u);
          is = ap (λ (ls : List (List ℕ)). ls ++ Y) t.is ∙ ap (λ (ls : List (List ℕ)). entry_line W plan S n e ∷ ls) (append_assoc t.ops t.later Y);
        }

    pub tells_one : (e : Entry) (S : State) (n : ℕ) (ops : List (List ℕ)) → TellsOps W form plan (histories.entry_ops W.kind plan S e) ops
        → Tells W form plan S n (e ∷ []) (entry_line W plan S n e ∷ ops)
    tells_one e S n ops told = record { ops = ops; tells = told; later = []; goes_on = refl; is = ap (λ (ls : List (List ℕ)). entry_line W plan S n e ∷ ls) (sym (append-nil ops)) }

  pub opens_listed : (form : Form) (plan : Plan) (o : Option ℕ) → Opens W form plan o (opening_lines W plan o)
  opens_listed History plan o = refl
  opens_listed Trace plan None = inr refl
  opens_listed Trace plan (Some k) = refl

-- # The line of an entry isn't that of an operation

no_space : (w rest more : List ℕ) → 0 < length w → IsWord w → w ++ rest ≡ 32 ∷ more → ⊥
no_space [] rest more some word e = absurd (omega arith)
no_space (b ∷ w) rest more some word e =
    let byte : b ≡ 32 = ap (λ (l : List ℕ). get_or l 0 0) e in
    let over = word.0 in
    absurd (omega (arith, byte, over))

module _ {Plan Request Reply Entry State : Type 0} (W : Wording Plan Request Reply Entry State) where
  -- the line of an operation has its processor's path behind its verb
  pub record Headed (plan : Plan) (o : Op) : Type 0 where
    pub verb : List ℕ
    pub tail : List ℕ
    pub word : IsWord verb
    pub is : op_line W plan o ≡ 32 ∷ 32 ∷ (verb ++ 32 ∷ (W.path plan (op_cpu o) ++ 32 ∷ tail))

  pub headed : (plan : Plan) (o : Op) → Headed plan o
  headed plan (Set p r v) = record { verb = codes "set"; tail = register_text r ++ 32 ∷ hex_text v; word = over-test 32 (codes "set") refl; is = refl }
  headed plan (Enter p composite) = record { verb = codes "enter"; tail = register_text composite.register; word = over-test 32 (codes "enter") refl; is = refl }

module _ {Plan Request Reply Entry State : Type 0} {W : Wording Plan Request Reply Entry State} {IsNarrow : Entry → Type 0} {IsNarrowRequest : Request → Type 0} where
  module _ (plan : Plan) (tell : TextsTell W plan IsNarrow IsNarrowRequest) where
    pub entry_no_op : (S : State) (n : ℕ) (e : Entry) (o : Op) → entry_line W plan S n e ≡ op_line W plan o → ⊥
    entry_no_op S n e o same = no_space (decimal n) _ _ (decimal_some n) (tell.words.words S n e).0 (same ∙ (headed W plan o).is)

    -- # Entries

    module _ (form : Form) where
      pub tells_over : (es : List Entry) (S : State) (n : ℕ) (X : List (List ℕ)) → Tells W form plan S n es X → AllOver 10 X
      tells_over [] S n X t = subst (AllOver 10) (sym t) tt
      tells_over (e ∷ es) S n X t =
          subst (AllOver 10) (sym t.is) (
            entry_line-over tell.words S n e,
            each_append (Over 10) t.ops t.later (ops_over form plan tell (histories.entry_ops W.kind plan S e) t.ops t.tells)
                (tells_over es (histories.after_entry W.kind plan S e) (n + 1) t.later t.goes_on),
          )

      -- the lines of a history begin those of another one: so does the history, but for its seats
      pub record Follows (es fs : List Entry) (S : State) (n : ℕ) (xs : List (List ℕ)) : Type 0 where
        pub before : List Entry
        pub later : List Entry
        pub split : fs ≡ before ++ later
        pub alike : map W.unseated before ≡ map W.unseated es
        pub rest : Tells W form plan (histories.replay_from W.kind plan S es) (n + length es) later xs

      pub follows : (es fs : List Entry) (S : State) (n : ℕ) (X xs Y : List (List ℕ)) → AllByRecursion (W.kind.IsEntry plan) es → AllByRecursion (W.kind.IsEntry plan) fs
          → AllByRecursion IsNarrow es → AllByRecursion IsNarrow fs → Tells W form plan S n es X → Tells W form plan S n fs Y → Y ≡ X ++ xs → Follows es fs S n xs
      follows [] fs S n X xs Y is_es is_fs narrow_es narrow_fs t u same =
          let number : n ≡ n + 0 = omega arith in
          record {
            before = [];
            later = fs;
            split = refl;
            alike = refl;
            rest = subst (λ (m : ℕ). Tells W form plan S m fs xs) number (subst (Tells W form plan S n fs) (same ∙ ap (λ (ls : List (List ℕ)). ls ++ xs) t) u);
          }
      follows (e ∷ es) [] S n X xs Y is_es is_fs narrow_es narrow_fs t u same = absurd (nothing (ap (λ (ls : List (List ℕ)). ls ++ xs) (sym t.is) ∙ sym same ∙ u))
      follows (e ∷ es) (f ∷ fs) S n X xs Y is_es is_fs narrow_es narrow_fs t u same =
          let T = histories.after_entry W.kind plan S e in
          let whole : entry_line W plan S n e ∷ ((t.ops ++ t.later) ++ xs) ≡ entry_line W plan S n f ∷ (u.ops ++ u.later) = ap (λ (ls : List (List ℕ)). ls ++ xs) (sym t.is) ∙ sym same ∙ u.is in
          let first : entry_line W plan S n e ≡ entry_line W plan S n f = ap (λ (ls : List (List ℕ)). head_of ls) whole in
          let like : W.unseated e ≡ W.unseated f = tell.words.entries S n e f is_es.0 is_fs.0 narrow_es.0 narrow_fs.0 first in
          let counts : length (histories.entry_ops W.kind plan S e) ≡ length (histories.entry_ops W.kind plan S f) = ap (λ (os : List Op). length os) (ops-alike tell.entries S e f like) in
          let size : length t.ops ≡ length u.ops =
          ops_length W form plan (histories.entry_ops W.kind plan S e) t.ops t.tells ∙ counts ∙ sym (ops_length W form plan (histories.entry_ops W.kind plan S f) u.ops u.tells) in
          let more : t.ops ++ (t.later ++ xs) ≡ u.ops ++ u.later = sym (append_assoc t.ops t.later xs) ∙ ap (λ (ls : List (List ℕ)). tail_of ls) whole in
          let parts = split_same t.ops u.ops (t.later ++ xs) u.later size more in
          let told : Tells W form plan T (n + 1) fs u.later = subst (λ (t : State). Tells W form plan t (n + 1) fs u.later) (sym (after-alike tell.entries S e f like)) u.goes_on in
          let r = follows es fs T (n + 1) t.later xs u.later is_es.1 is_fs.1 narrow_es.1 narrow_fs.1 t.goes_on told (sym parts.1) in
          let number : n + 1 + length es ≡ n + length (e ∷ es) = omega arith in
          record {
            before = f ∷ r.before;
            later = r.later;
            split = ap (λ (l : List Entry). f ∷ l) r.split;
            alike = ap₂ (λ (x : Entry) (l : List Entry). x ∷ l) (sym like) r.alike;
            rest = subst (λ (m : ℕ). Tells W form plan (histories.replay_from W.kind plan S (e ∷ es)) m r.later xs) number r.rest;
          }

    -- # The opening

    -- these lines don't begin with the first operation of the opening
    abbrev pub NotFirst : List (List ℕ) → Type 0
    NotFirst ls = (o : Op) (os : List Op) (rest : List (List ℕ)) → W.opening_ops plan ≡ o ∷ os → ls ≡ op_line W plan o ∷ rest → ⊥

    pub tells_not_first : (form : Form) (es : List Entry) (S : State) (n : ℕ) (X Z : List (List ℕ)) → Tells W form plan S n es X → (es ≡ [] → NotFirst Z) → NotFirst (X ++ Z)
    tells_not_first form [] S n X Z t not o os rest ops e = not refl o os rest ops (ap (λ (ls : List (List ℕ)). ls ++ Z) (sym t) ∙ e)
    tells_not_first form (x ∷ es) S n X Z t not o os rest ops e =
        entry_no_op S n x o (ap (λ (ls : List (List ℕ)). head_of ls) (ap (λ (ls : List (List ℕ)). ls ++ Z) (sym t.is) ∙ e))

    pub told_not_first : (form : Form) (es : List Entry) (S : State) (n : ℕ) (X : List (List ℕ)) → Tells W form plan S n es X → NotFirst X
    told_not_first form es S n X t =
        subst NotFirst (append-nil X) (tells_not_first form es S n X [] t (λ e o os rest ops none. nothing (sym none)))

    history_is : (o : Option ℕ) → history_lines W plan o [] ≡ opening_lines W plan o ++ []
    unfolding texts.history_lines
    history_is o = refl

    opening_over : (o : Option ℕ) → AllOver 10 (opening_lines W plan o)
    opening_over o = each_first (Over 10) (opening_lines W plan o) [] (subst (AllOver 10) (history_is o) (lines-over tell.words o []))

    pub opens_over : (form : Form) (o : Option ℕ) (first : List (List ℕ)) → Opens W form plan o first → AllOver 10 first
    opens_over History o first is = subst (AllOver 10) (sym is) (opening_over o)
    opens_over Trace None first (inl is) = subst (AllOver 10) (sym is) (over-test 10 (codes "open") refl, tt)
    opens_over Trace None first (inr is) = subst (AllOver 10) (sym is) (opening_over None)
    opens_over Trace (Some k) first is = subst (AllOver 10) (sym is) (opening_over (Some k))

    pub head_opens : (form : Form) (o : Option ℕ) (first : List (List ℕ)) → Opens W form plan o first → (Z : List (List ℕ)) → head_of (first ++ Z) ≡ head_of (opening_lines W plan o)
    head_opens History o first is Z = ap (λ (ls : List (List ℕ)). head_of (ls ++ Z)) is ∙ head-opening W plan o Z
    head_opens Trace None first (inl is) Z = ap (λ (ls : List (List ℕ)). head_of (ls ++ Z)) is
    head_opens Trace None first (inr is) Z = ap (λ (ls : List (List ℕ)). head_of (ls ++ Z)) is ∙ head-opening W plan None Z
    head_opens Trace (Some k) first is Z = ap (λ (ls : List (List ℕ)). head_of (ls ++ Z)) is ∙ head-opening W plan (Some k) Z

    -- openings of one text are one
    pub same_opening : (form : Form) (o f : Option ℕ) (first other : List (List ℕ)) → Opens W form plan o first → Opens W form plan f other → IsNarrowFault o → IsNarrowFault f
        → (Z Y : List (List ℕ)) → other ++ Y ≡ first ++ Z → o ≡ f
    same_opening form o f first other a b narrow_o narrow_f Z Y same =
        heads-tell W plan o f narrow_o narrow_f (sym (head_opens form o first a Z) ∙ ap (λ (ls : List (List ℕ)). head_of ls) (sym same) ∙ head_opens form f other b Y)

    drop_ops : (ops : List Op) (Z Y : List (List ℕ)) → ((o : Op) (os : List Op) (rest : List (List ℕ)) → ops ≡ o ∷ os → Z ≡ op_line W plan o ∷ rest → ⊥)
        → Z ≡ map (op_line W plan) ops ++ Y → Z ≡ Y
    drop_ops [] Z Y not e = e
    drop_ops (o ∷ os) Z Y not e = absurd (not o os (map (op_line W plan) os ++ Y) refl e)

    -- behind openings of one text stands the same
    pub behind_opened : (form : Form) (first other : List (List ℕ)) → Opens W form plan None first → Opens W form plan None other → (Z Y : List (List ℕ))
        → (form ≡ Trace → first ≡ codes "open" ∷ [] → NotFirst Z) → NotFirst Y → other ++ Y ≡ first ++ Z → Y ≡ Z
    behind_opened History first other a b Z Y not_z not_y same =
        append_cancel_left (opening_lines W plan None) Y Z (ap (λ (ls : List (List ℕ)). ls ++ Y) (sym b) ∙ same ∙ ap (λ (ls : List (List ℕ)). ls ++ Z) a)
    behind_opened Trace first other (inl a) (inl b) Z Y not_z not_y same =
        ap (λ (ls : List (List ℕ)). tail_of ls) (ap (λ (ls : List (List ℕ)). ls ++ Y) (sym b) ∙ same ∙ ap (λ (ls : List (List ℕ)). ls ++ Z) a)
    behind_opened Trace first other (inl a) (inr b) Z Y not_z not_y same =
        let tails : map (op_line W plan) (W.opening_ops plan) ++ Y ≡ Z =
        ap (λ (ls : List (List ℕ)). tail_of ls) (ap (λ (ls : List (List ℕ)). ls ++ Y) (sym b) ∙ same ∙ ap (λ (ls : List (List ℕ)). ls ++ Z) a) in
        sym (drop_ops (W.opening_ops plan) Z Y (not_z refl a) (sym tails))
    behind_opened Trace first other (inr a) (inl b) Z Y not_z not_y same =
        let tails : Y ≡ map (op_line W plan) (W.opening_ops plan) ++ Z =
        ap (λ (ls : List (List ℕ)). tail_of ls) (ap (λ (ls : List (List ℕ)). ls ++ Y) (sym b) ∙ same ∙ ap (λ (ls : List (List ℕ)). ls ++ Z) a) in
        drop_ops (W.opening_ops plan) Y Z not_y tails
    behind_opened Trace first other (inr a) (inr b) Z Y not_z not_y same =
        append_cancel_left (opening_lines W plan None) Y Z (ap (λ (ls : List (List ℕ)). ls ++ Y) (sym b) ∙ same ∙ ap (λ (ls : List (List ℕ)). ls ++ Z) a)
