-- Replies counted one by one are as many as there are of each kind.
use Rattle.std.proofs.Common.{◌≡◌, ◌∙◌, ◌+◌, ℕ, Bool, cond, List, [], ◌∷◌, count_by, refl, arith, zero-add}
use Rattle.std.proofs.lemmas.List.Sums.{sum_by-cons}
use Rattle.pw_model.specs.declared.reply.Reply.{Reply}
use Rattle.pw_model.specs.declared.reply.Reply.TheVariants.{Entered, Running, Stands, NoState, Disabled, AboveLimit, NoTable, Unfit, TooSlow}
use Rattle.pw_generate.specs.declared.counts.Counts.{Counts}
use Rattle.pw_generate.specs.Summary.{is_entered, is_refused, is_running, is_stands, labelled}
use Rattle.pw_generate.specs.inner.Counting.{counted, none, reply_lines, with_reply}
use Rattle.std.specs.Prelude.{codes}

-- # Kinds

abbrev IsCountOf : (Counts → ℕ) → (Reply → Bool) → Type 0
IsCountOf count t = (c : Counts) (r : Reply) → count (with_reply c r) ≡ count c + cond (t r) 1 0

entered_is : IsCountOf (λ c. c.entered) is_entered
entered_is c (Entered chain) = refl
entered_is c Running = omega arith
entered_is c (Stands index) = omega arith
entered_is c (NoState count) = omega arith
entered_is c Disabled = omega arith
entered_is c (AboveLimit limit) = omega arith
entered_is c NoTable = omega arith
entered_is c (Unfit domain why) = omega arith
entered_is c (TooSlow latency) = omega arith

running_is : IsCountOf (λ c. c.running) is_running
running_is c (Entered chain) = omega arith
running_is c Running = refl
running_is c (Stands index) = omega arith
running_is c (NoState count) = omega arith
running_is c Disabled = omega arith
running_is c (AboveLimit limit) = omega arith
running_is c NoTable = omega arith
running_is c (Unfit domain why) = omega arith
running_is c (TooSlow latency) = omega arith

stands_is : IsCountOf (λ c. c.stands) is_stands
stands_is c (Entered chain) = omega arith
stands_is c Running = omega arith
stands_is c (Stands index) = refl
stands_is c (NoState count) = omega arith
stands_is c Disabled = omega arith
stands_is c (AboveLimit limit) = omega arith
stands_is c NoTable = omega arith
stands_is c (Unfit domain why) = omega arith
stands_is c (TooSlow latency) = omega arith

refused_is : IsCountOf (λ c. c.refused) is_refused
refused_is c (Entered chain) = omega arith
refused_is c Running = omega arith
refused_is c (Stands index) = omega arith
refused_is c (NoState count) = refl
refused_is c Disabled = refl
refused_is c (AboveLimit limit) = refl
refused_is c NoTable = refl
refused_is c (Unfit domain why) = refl
refused_is c (TooSlow latency) = refl

counted_is : (count : Counts → ℕ) (t : Reply → Bool) → IsCountOf count t → (c : Counts) (rs : List Reply)
    → count (counted c rs) ≡ count c + count_by t rs
counted_is count t is c [] = omega arith
counted_is count t is c (r ∷ rs) =
    let later = counted_is count t is (with_reply c r) rs in
    let here = is c r in
    let more : count_by t (r ∷ rs) ≡ cond (t r) 1 0 + count_by t rs = sum_by-cons (λ x. cond (t x) 1 0) r rs in
    omega (arith, later, here, more)

pub replies_are : (rs : List Reply) → reply_lines (counted none rs)
    ≡ labelled (codes "entered") (count_by is_entered rs ∷ [])
    ∷ labelled (codes "running") (count_by is_running rs ∷ [])
    ∷ labelled (codes "stands") (count_by is_stands rs ∷ [])
    ∷ labelled (codes "refused") (count_by is_refused rs ∷ [])
    ∷ []
replies_are rs =
    let a = counted_is (λ c. c.entered) is_entered entered_is none rs ∙ zero-add (count_by is_entered rs) in
    let b = counted_is (λ c. c.running) is_running running_is none rs ∙ zero-add (count_by is_running rs) in
    let c = counted_is (λ c. c.stands) is_stands stands_is none rs ∙ zero-add (count_by is_stands rs) in
    let d = counted_is (λ c. c.refused) is_refused refused_is none rs ∙ zero-add (count_by is_refused rs) in
    rw (a, b, c, d) refl
