-- Where the walk over the entries of a text stands.
use Rattle.std.specs.Prelude.{◌≡◌, ◌+◌, ◌++◌, ◌∷◌, ℕ, List, [], codes, length, None}
use Rattle.std.specs.List.{AllByRecursion}
use Rattle.pw_kind.specs.History as histories
use Rattle.pw_text.specs.Lines.{text_of}
use Rattle.pw_history.specs.Wording.{Wording}
use Rattle.pw_history.specs.Asked.{IsStart}
use Rattle.pw_audit.specs.declared.form.Form.{Form}
use Rattle.pw_audit.specs.declared.form.Form.TheVariants.{Trace}
use Rattle.pw_audit.specs.Tracing.{Opens, Tells}
use Rattle.pw_audit.specs.inner.Queues.{Leaves, Takes}
use Rattle.pw_audit.specs.inner.Stopping.{EntryRead, LacksFirst, MayCome}

module _ {Plan Request Reply Entry State : Type 0} (W : Wording Plan Request Reply Entry State) (Fits : Plan → State → Type 0) where
  -- The walk stands behind these entries, in this state, with this left of the script and of the text, behind so many lines.
  pub record Walked (form : Form) (plan : Plan) (L : List Request) (text : List ℕ) (H : List Entry) (S : State)
      (queues : List (List Request)) (passed : ℕ) (left : List ℕ) : Type 0 where
    pub start : IsStart W plan L H
    pub faultless : histories.Faultless W.kind H
    pub seats : AllByRecursion (λ (e : Entry). W.seat e ≡ 0) H
    pub state : S ≡ histories.replay W.kind plan H
    pub fits : Fits plan S
    pub leaves : Leaves W plan L H queues
    pub first : List (List ℕ)
    pub told : List (List ℕ)
    pub opens : Opens W form plan None first
    pub tells : Tells W form plan (W.kind.opening plan) 1 H told
    pub lines : passed ≡ length (first ++ told)
    pub is : text ≡ text_of (first ++ told) ++ left
    pub out : form ≡ Trace → first ≡ codes "open" ∷ [] → H ≡ [] → LacksFirst W plan left

  -- the next entry of a text, numbered n, and what comes of it
  pub record Steps (form : Form) (plan : Plan) (S : State) (n : ℕ) (queues : List (List Request)) (passed : ℕ) (left : List ℕ)
      (e : Entry) (T : State) (new : List (List Request)) (next : ℕ) (rest : List ℕ) : Type 0 where
    pub may : MayCome W plan S queues e
    pub seat : W.seat e ≡ 0
    pub read : EntryRead W form plan S n e left rest
    pub lines : next ≡ passed + 1 + length (histories.entry_ops W.kind plan S e)
    pub takes : Takes queues (W.asker e) (W.kind.request e) new
    pub after : T ≡ histories.after_entry W.kind plan S e
    pub fits : Fits plan T
