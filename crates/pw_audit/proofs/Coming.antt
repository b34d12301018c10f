-- What may come behind the lines of a start.
use Rattle.std.proofs.Common.{◌≡◌, ◌<◌, ◌+◌, ◌∙◌, ℕ, List, [], ◌∷◌, ◌++◌, map, length, codes, Option, None, ap, sym, subst, arith, append_assoc, append-nil}
use Rattle.std.specs.List.{AllByRecursion}
use Rattle.std.proofs.lemmas.List.{length-append, map-append}
use Rattle.pw_audit.specs.declared.form.Form.{Form}
use Rattle.pw_audit.specs.declared.form.Form.TheVariants.{Trace}
use Rattle.pw_audit.proofs.Orders.{goes_on}
use Rattle.pw_audit.proofs.Told.{NotFirst, behind_opened, entry_no_op, follows, ops_length, same_opening, tells_not_first, told_not_first}
use Rattle.pw_kind.specs.History as histories
use Rattle.pw_history.specs.Asked.{Begins, CanBeAsked, IsRunOf, IsStart, Lawful, own, requests}
use Rattle.pw_history.specs.HistoryText.{entry_line}
use Rattle.pw_history.specs.Telling.{TextsTell}
use Rattle.pw_history.specs.Wording.{Wording}
use Rattle.pw_history.proofs.Determined.{head_of, tail_of}
use Rattle.pw_history.proofs.Alike.{legal-alike, ops-alike, requests-alike, run-alike}
use Rattle.pw_history.proofs.Narrow.{lawful-opening, run-start, start-narrow}
use Rattle.pw_history.proofs.Completions.{first-begins}
use Rattle.pw_kind.proofs.Joining.{each_last, last_before, legal-first}
use Rattle.pw_audit.specs.Tracing.{Opens, Tells, TellsOps}
use Rattle.acpi_values.specs.declared.operation.Op.{Op}

nothing : {x : List ℕ} {xs : List (List ℕ)} → x ∷ xs ≡ [] → ⊥
nothing e = cc

module _ {Plan Request Reply Entry State : Type 0} {W : Wording Plan Request Reply Entry State} {IsNarrow : Entry → Type 0} {IsNarrowRequest : Request → Type 0} where
  module _ (form : Form) (plan : Plan) (tell : TextsTell W plan IsNarrow IsNarrowRequest) (L : List Request) (are : CanBeAsked W IsNarrowRequest plan L) where
    module _ (H : List Entry) (start : IsStart W plan L H) (first told : List (List ℕ)) (opens : Opens W form plan None first) (tells : Tells W form plan (W.kind.opening plan) 1 H told) where
      -- a history of the script that goes on with these lines
      pub record After (Z : List (List ℕ)) : Type 0 where
        pub before : List Entry
        pub later : List Entry
        pub alike : map W.unseated before ≡ map W.unseated H
        pub run : IsRunOf W plan L (before ++ later)
        pub are_entries : AllByRecursion (W.kind.IsEntry plan) later
        pub narrow : AllByRecursion IsNarrow later
        pub rest : Tells W form plan (histories.replay W.kind plan H) (1 + length H) later Z

      pub after : (Z : List (List ℕ)) → (form ≡ Trace → first ≡ codes "open" ∷ [] → NotFirst plan tell (told ++ Z)) → (o : Option ℕ) (es : List Entry) (other Y : List (List ℕ))
          → Lawful W plan L o es → Opens W form plan o other → Tells W form plan (W.kind.opening plan) 1 es Y → other ++ Y ≡ (first ++ told) ++ Z → After Z
      unfolding histories.replay
      after Z free o es other Y lawful opens_o tells_o same =
          let whole : other ++ Y ≡ first ++ (told ++ Z) = same ∙ append_assoc first told Z in
          let none : None ≡ o = same_opening plan tell form None o first other opens opens_o tt (lawful-opening tell.entries tell.numbers L o es lawful) (told ++ Z) Y whole in
          let run : IsRunOf W plan L es = subst (λ (x : Option ℕ). Lawful W plan L x es) (sym none) lawful in
          let opens_none : Opens W form plan None other = subst (λ (x : Option ℕ). Opens W form plan x other) (sym none) opens_o in
          let rest : Y ≡ told ++ Z = behind_opened plan tell form first other opens opens_none (told ++ Z) Y free (told_not_first plan tell form es (W.kind.opening plan) 1 Y tells_o) whole in
          let narrow = start-narrow tell.entries tell.numbers L es are.narrow (run-start W plan L es run) in
          let f = follows plan tell form H es (W.kind.opening plan) 1 told Z Y start.legal.well_formed.entries run.legal.well_formed.entries
          (start-narrow tell.entries tell.numbers L H are.narrow start) narrow tells tells_o rest in
          record {
            before = f.before;
            later = f.later;
            alike = f.alike;
            run = subst (IsRunOf W plan L) f.split run;
            are_entries = each_last (W.kind.IsEntry plan) f.before f.later (subst (AllByRecursion (W.kind.IsEntry plan)) f.split run.legal.well_formed.entries);
            narrow = each_last IsNarrow f.before f.later (subst (AllByRecursion IsNarrow) f.split narrow);
            rest = f.rest;
          }

      -- # The next entry

      pub record NextEntry (l : List ℕ) : Type 0 where
        pub entry : Entry
        pub starts : IsStart W plan L (H ++ entry ∷ [])
        pub line : l ≡ entry_line W plan (histories.replay W.kind plan H) (1 + length H) entry

      pub next_entry : (l : List ℕ) (zs : List (List ℕ)) → After (l ∷ zs) → NextEntry l
      next_entry l zs a = step a.before a.later a.alike a.run a.rest
        where
          step : (before later : List Entry) → map W.unseated before ≡ map W.unseated H → IsRunOf W plan L (before ++ later)
              → Tells W form plan (histories.replay W.kind plan H) (1 + length H) later (l ∷ zs) → NextEntry l
          step before [] alike run rest = absurd (nothing rest)
          step before (e ∷ later) alike run rest =
              let run_of : IsRunOf W plan L ((before ++ e ∷ []) ++ later) = subst (IsRunOf W plan L) (sym (append_assoc before (e ∷ []) later)) run in
              let like : map W.unseated (before ++ e ∷ []) ≡ map W.unseated (H ++ e ∷ []) =
              map-append W.unseated before (e ∷ []) ∙ ap (λ (x : List Entry). x ++ W.unseated e ∷ []) alike ∙ sym (map-append W.unseated H (e ∷ [])) in
              let same_requests : requests W (before ++ e ∷ []) ≡ requests W (H ++ e ∷ []) = requests-alike (tell.entries) (before ++ e ∷ []) (H ++ e ∷ []) like in
              record {
                entry = e;
                starts = record {
                  legal = legal-alike (tell.entries) (before ++ e ∷ []) (H ++ e ∷ []) like (legal-first W.kind plan (before ++ e ∷ []) later run_of.legal);
                  begins = λ p lt. subst (λ (q : List Request). Begins (own W p q) (own W p L)) same_requests (first-begins W plan L (before ++ e ∷ []) later run_of p lt);
                };
                line = ap (λ (ls : List (List ℕ)). head_of ls) rest.is;
              }

      pub only_faultless : (l : List ℕ) → NextEntry l → histories.Faultless W.kind H
      only_faultless l next = last_before W.kind H [] next.entry next.starts.legal.well_formed.fault

      -- # The end

      pub ended : After [] → IsRunOf W plan L H
      ended a = step a.before a.later a.alike a.run a.rest
        where
          step : (before later : List Entry) → map W.unseated before ≡ map W.unseated H → IsRunOf W plan L (before ++ later)
              → Tells W form plan (histories.replay W.kind plan H) (1 + length H) later [] → IsRunOf W plan L H
          step before [] alike run rest = run-alike (tell.entries) L before H alike (subst (IsRunOf W plan L) (append-nil before) run)
          step before (e ∷ later) alike run rest = absurd (nothing (sym rest.is))

      -- # Within an entry

      module _ (e : Entry) (goes : IsStart W plan L (H ++ e ∷ [])) where
        like : (f : Entry) → W.kind.IsEntry plan f → IsNarrow f
            → entry_line W plan (histories.replay W.kind plan H) (1 + length H) e ≡ entry_line W plan (histories.replay W.kind plan H) (1 + length H) f → W.unseated e ≡ W.unseated f
        like f is_f narrow_f same =
            let is_e = (each_last (W.kind.IsEntry plan) H (e ∷ []) goes.legal.well_formed.entries).0 in
            let narrow_e = (each_last IsNarrow H (e ∷ []) (start-narrow tell.entries tell.numbers L (H ++ e ∷ []) are.narrow goes)).0 in
            tell.words.entries (histories.replay W.kind plan H) (1 + length H) e f is_e is_f narrow_e narrow_f same

        pub free_within : (zs : List (List ℕ)) → NotFirst plan tell (told ++ entry_line W plan (histories.replay W.kind plan H) (1 + length H) e ∷ zs)
        free_within zs = tells_not_first plan tell form H (W.kind.opening plan) 1 told (entry_line W plan (histories.replay W.kind plan H) (1 + length H) e ∷ zs) tells
            (λ none o os rest is same. entry_no_op plan tell (histories.replay W.kind plan H) (1 + length H) e o (ap (λ (ls : List (List ℕ)). head_of ls) same))

        pub record NextOp (done : List (List ℕ)) (l : List ℕ) : Type 0 where
          pub rest : List (List ℕ)
          pub fits : TellsOps W form plan (histories.entry_ops W.kind plan (histories.replay W.kind plan H) e) (done ++ l ∷ rest)

        pub next_op : (done zs : List (List ℕ)) (l : List ℕ) → length done < length (histories.entry_ops W.kind plan (histories.replay W.kind plan H) e)
            → After (entry_line W plan (histories.replay W.kind plan H) (1 + length H) e ∷ (done ++ l ∷ zs))
            → NextOp done l
        next_op done zs l lt a = step a.later a.are_entries a.narrow a.rest
          where
            step : (later : List Entry) → AllByRecursion (W.kind.IsEntry plan) later → AllByRecursion IsNarrow later
                → Tells W form plan (histories.replay W.kind plan H) (1 + length H) later (entry_line W plan (histories.replay W.kind plan H) (1 + length H) e ∷ (done ++ l ∷ zs)) → NextOp done l
            step [] is narrow rest = absurd (nothing rest)
            step (f ∷ later) is narrow rest =
                let same = like f is.0 narrow.0 (ap (λ (ls : List (List ℕ)). head_of ls) rest.is) in
                let told_e : TellsOps W form plan (histories.entry_ops W.kind plan (histories.replay W.kind plan H) e) rest.ops =
                subst (λ (os : List Op). TellsOps W form plan os rest.ops) (sym (ops-alike tell.entries (histories.replay W.kind plan H) e f same)) rest.tells in
                let size = ops_length W form plan (histories.entry_ops W.kind plan (histories.replay W.kind plan H) e) rest.ops told_e in
                let g = goes_on done l zs rest.ops rest.later (omega (arith, lt, size)) (ap (λ (ls : List (List ℕ)). tail_of ls) rest.is) in
                record { rest = g.rest; fits = subst (TellsOps W form plan (histories.entry_ops W.kind plan (histories.replay W.kind plan H) e)) g.is told_e }

        pub not_ended : (done : List (List ℕ)) → length done < length (histories.entry_ops W.kind plan (histories.replay W.kind plan H) e)
            → After (entry_line W plan (histories.replay W.kind plan H) (1 + length H) e ∷ done) → ⊥
        not_ended done lt a = step a.later a.are_entries a.narrow a.rest
          where
            step : (later : List Entry) → AllByRecursion (W.kind.IsEntry plan) later → AllByRecursion IsNarrow later
                → Tells W form plan (histories.replay W.kind plan H) (1 + length H) later (entry_line W plan (histories.replay W.kind plan H) (1 + length H) e ∷ done) → ⊥
            step [] is narrow rest = nothing rest
            step (f ∷ later) is narrow rest =
                let same = like f is.0 narrow.0 (ap (λ (ls : List (List ℕ)). head_of ls) rest.is) in
                let told_e : TellsOps W form plan (histories.entry_ops W.kind plan (histories.replay W.kind plan H) e) rest.ops =
                subst (λ (os : List Op). TellsOps W form plan os rest.ops) (sym (ops-alike tell.entries (histories.replay W.kind plan H) e f same)) rest.tells in
                let size = ops_length W form plan (histories.entry_ops W.kind plan (histories.replay W.kind plan H) e) rest.ops told_e in
                let tails : done ≡ rest.ops ++ rest.later = ap (λ (ls : List (List ℕ)). tail_of ls) rest.is in
                let long : length done ≡ length rest.ops + length rest.later = ap (λ (ls : List (List ℕ)). length ls) tails ∙ length-append rest.ops rest.later in
                absurd (omega arith)
