-- Room for replies is taken, and the replies are put back, each at its processor's place.
use Rattle.std.proofs.Common.{◌≡◌, ◌≢◌, ◌<◌, ◌≤◌, ◌+◌, ◌⊎◌, ℕ, List, Vec, [], ◌∷◌, ◌++◌, length, map, get_or, set, refl, ap, sym, ◌∙◌, subst, inl, inr, arith}
use Rattle.std.specs.Prelude.{vec_capacity}
use Rattle.std.specs.List.{AllByRecursion}
use Rattle.std.specs.declared.alloc.Global.{Global}
use Rattle.std.proofs.lemmas.List.{get_or-set_other, get_or-set_same, length-set}
use mathlib.Core.Logic.{dite}
use native.Mathlib.Decide.{ℕ_discrete}
use Rattle.pw_plan.specs.declared.request.Request.{Request}
use Rattle.pw_model.specs.declared.reply.Reply.{Reply}
use Rattle.pw_books.specs.Workers.{HasWorker}
use Rattle.pw_drive.specs.declared.working.Worker.{Worker}
use Rattle.pw_drive.specs.inner.Workers.{gathered}
use Rattle.pw_drive.specs.inner.Replying.{AreEmpty, HaveRoom, handed_down}

abbrev Lists : Type 0
Lists = List (Vec Reply Global)

-- # Room is taken

module _ (old new : Lists) (cpu : ℕ) (size : length new ≡ length old) (left : (d : Vec Reply Global) → (get_or new cpu d).items ≡ [])
    (others : (p : ℕ) (d : Vec Reply Global) → p ≢ cpu → get_or new p d ≡ get_or old p d) where
  pub taken_empty : (count : ℕ) → AreEmpty count old → AreEmpty count new
  taken_empty count e = record {
    size = size ∙ e.size;
    empty = λ p d lt. dite (ℕ_discrete p cpu)
        (λ same. subst (λ k. (get_or new k d).items ≡ []) (sym same) (left d))
        (λ other. ap (λ (v : Vec Reply Global). v.items) (others p d other) ∙ e.empty p d lt);
  }

  pub taken_room : (lists : List (Vec Request Global)) (count : ℕ) → count ≡ cpu + 1 → HaveRoom count lists old → HaveRoom cpu lists new
  taken_room lists count more room = λ p r d lt.
      subst (λ (v : Vec Reply Global). length (get_or lists p r).items ≤ vec_capacity v) (sym (others p d (λ same. absurd (omega (arith, same, lt))))) (room p r d (omega (arith, more, lt)))

pub fewer_room : (lists : List (Vec Request Global)) (each : Lists) (count fewer : ℕ) → fewer ≤ count → HaveRoom count lists each → HaveRoom fewer lists each
fewer_room lists each count fewer le room = λ p r d lt. room p r d (omega (arith, le, lt))

-- # Replies are put back

pub handed_none : (each : Lists) (ws : List Worker) → length ws ≡ 0 → handed_down each ws ≡ each
handed_none each [] none = refl
handed_none each (w ∷ ws) none = absurd (omega (arith, none))

pub handed_last : (each : Lists) (ws : List Worker) (w : Worker) → handed_down each (ws ++ w ∷ []) ≡ handed_down (set each w.cpu w.replies) ws
handed_last each [] w = refl
handed_last each (v ∷ vs) w = ap (λ (l : Lists). set l v.cpu v.replies) (handed_last each vs w)

pub handed_size : (each : Lists) (ws : List Worker) → length (handed_down each ws) ≡ length each
handed_size each [] = refl
handed_size each (w ∷ ws) = length-set (handed_down each ws) w.cpu w.replies ∙ handed_size each ws

-- each worker has what its processor is to have
module _ (has : ℕ → List Reply) (each : Lists) (count : ℕ) (empty : AreEmpty count each) where
  pub record Brings (w : Worker) : Type 0 where
    pub inside : w.cpu < count
    pub are : w.replies.items ≡ has w.cpu

  -- then each processor has it, or has no worker and nothing
  abbrev Has : List Worker → ℕ → Vec Reply Global → Type 0
  Has ws p x = (x.items ≡ has p) ⊎ ((x.items ≡ []) × (HasWorker (map gathered ws) p → ⊥))

  pub all_handed : (ws : List Worker) → AllByRecursion Brings ws → (p : ℕ) (d : Vec Reply Global) → p < count → Has ws p (get_or (handed_down each ws) p d)
  all_handed [] brings p d lt = inr (empty.empty p d lt, λ none. none)
  all_handed (w ∷ ws) brings p d lt =
      let before = handed_down each ws in
      dite (ℕ_discrete p w.cpu)
      (λ same. inl (ap (λ (k : ℕ). (get_or (set before w.cpu w.replies) k d).items) same
      ∙ ap (λ (v : Vec Reply Global). v.items) (get_or-set_same before w.cpu w.replies d (omega (arith, brings.0.inside, handed_size each ws, empty.size))) ∙ brings.0.are ∙ ap has (sym same)))
      (λ other. subst (Has (w ∷ ws) p) (sym (get_or-set_other before w.cpu p w.replies d other)) (more (get_or before p d) (λ is. other (sym is)) (all_handed ws brings.1 p d lt)))
    where
      more : (x : Vec Reply Global) → w.cpu ≢ p → Has ws p x → Has (w ∷ ws) p x
      more x ne (inl is) = inl is
      more x ne (inr none) = inr (none.0, elim [ inl is ↦ ne is | inr later ↦ none.1 later ])
