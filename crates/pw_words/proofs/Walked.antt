-- The walk of `clap` over words that begin with no hyphen.
use Rattle.std.proofs.Common.{◌≡◌, ◌∙◌, ◌∷◌, ◌+◌, ◌&&◌, min, is_some, ◌++◌, ℕ, Bool, cond, true, false, refl, sym, ap, ap₂, List, [], codes}
use Rattle.std.proofs.Common.{Option, Some, None, true≢false, append-nil, append_assoc}
use Rattle.std.specs.Prelude.{fold, option_and_then}
use Rattle.std.specs.Str.{bytes_eq}
use Rattle.std.specs.Option.{option_map_or}
use Rattle.clap.specs.Lexer.{long_of, long_of_rest, short_of, short_of_rest, strip_byte, usize_max}
use Rattle.clap.specs.Walk.{after_step, pushed, settled_rows, to_positional, Held, Names, Row, Rule, Step, Text, Waiting, Walk}
use Rattle.clap.specs.Walk.{arg_by_index, idle, is_pending, long_or_other, plain_word, positional, settled, short_or_plain, subcommand_met}
use Rattle.clap.specs.Walk.{subcommand_or_other, trailing, value, walked, word_met}
use Rattle.clap.specs.Simple.{Shape, filled, with_index}
use Rattle.clap.specs.Kinds.{Kinds, or_else}
use Rattle.clap.specs.Faults.{bundle_fault, flag_word_fault, positional_fault, other_fault, settle_fault, step_fault, stray_fault}
use Rattle.clap.specs.Faults.{turn_fault, walk_fault, word_fault}
use Rattle.pw_words.specs.App.{blocks_rule, word_rule}
use Rattle.pw_words.specs.Words.{are_bare, is_dashed}

stripped : (word : Text) → is_dashed word ≡ false → strip_byte 45 word ≡ None
stripped [] bare = refl
stripped (x ∷ xs) bare = rw bare refl

no_end : (word : Text) → is_dashed word ≡ false → bytes_eq word (45 ∷ 45 ∷ []) ≡ false
no_end [] bare = refl
no_end (x ∷ xs) bare = rw bare refl

no_long : (word : Text) → is_dashed word ≡ false → long_of word ≡ None
no_long word bare = ap (λ o. option_and_then long_of_rest (option_and_then (strip_byte 45) o)) (stripped word bare)

no_short : (word : Text) → is_dashed word ≡ false → short_of word ≡ None
no_short word bare = ap (λ o. option_and_then short_of_rest o) (stripped word bare)

-- the word is no subcommand, and nothing waits for a value
pub bare_met : (c : List Rule) (names : Names) (waiting : Waiting) (position : ℕ) (word : Text) (h : Held) → is_dashed word ≡ false
    → subcommand_met names waiting word ≡ None
    → plain_word c waiting word h ≡ (h, value) → word_met c names false waiting position word h ≡ (h, value)
bare_met c names waiting position word h bare none plain =
    ap (λ o. subcommand_or_other c o waiting position word h) none
    ∙ ap (λ b. cond b (h, trailing position) (long_or_other c waiting word (long_of word) h)) (no_end word bare)
    ∙ ap (λ o. long_or_other c waiting word o h) (no_long word bare)
    ∙ ap (λ o. short_or_plain c waiting word o h) (no_short word bare)
    ∙ plain

pub bare_fault : (s : Shape) (names : Names) (waiting : Waiting) (word : Text) (h : Held) → is_dashed word ≡ false
    → subcommand_met names waiting word ≡ None
    → word_fault s names false waiting word h ≡ []
bare_fault s names waiting word h bare none =
    ap (λ o. other_fault s o word h) none
    ∙ ap (λ b. cond b [] (flag_word_fault s.rules s.args_override_self (long_of word) word h)) (no_end word bare)
    ∙ ap (λ o. flag_word_fault s.rules s.args_override_self o word h) (no_long word bare)
    ∙ ap (λ o. option_map_or (λ flags. bundle_fault s.rules s.args_override_self flags h) o []) (no_short word bare)

-- the rule of one word at a position, and that of the files, as building fills them in
abbrev pub word_at : Text → ℕ → Rule
word_at id p = with_index p (filled (word_rule id))

abbrev pub blocks_at : ℕ → Rule
blocks_at p = with_index p (filled blocks_rule)

abbrev pub held : List Row → Option (Text × List Text) → Held
held rows pending = record { rows = rows; pending = pending; skip = 0 }

-- what is held while files are read
abbrev pub files_held : List Row → List Text → Held
files_held rows files = held rows (Some (codes "blocks", files))

abbrev pub idle_at : ℕ → Held → Walk
idle_at p h = record { held = h; waiting = idle; position = p; is_trailing = false; stopped = None }

-- where the walk stands between two files
abbrev pub among_files : ℕ → List Row → List Text → Walk
among_files p rows files = record { held = files_held rows files; waiting = positional; position = p; is_trailing = false; stopped = None }

pub bare_parts : (f : Text) (fs : List Text) → are_bare (f ∷ fs) ≡ true → (is_dashed f ≡ false) × (are_bare fs ≡ true)
bare_parts f fs = go (is_dashed f)
  where
    go : (b : Bool) → cond b false (are_bare fs) ≡ true → (b ≡ false) × (are_bare fs ≡ true)
    go true e = absurd (true≢false (sym e))
    go false e = (refl, e)

module _ (s : Shape) (p : ℕ) where
  -- the turn of a bare word where nothing waits is that of its positional
  pub bare_turn : (w : Walk) (word : Text) → w.stopped ≡ None → w.is_trailing ≡ false → subcommand_met [] w.waiting word ≡ None
      → plain_word s.rules w.waiting word w.held ≡ (w.held, value)
      → is_dashed word ≡ false → turn_fault s [] w word ≡ step_fault s w.position w.held value
  bare_turn w word go_on ahead none plain bare =
      let fault = word_fault s [] w.is_trailing w.waiting word w.held in
      let step = word_met s.rules [] w.is_trailing w.waiting w.position word w.held in
      let faults : fault ≡ [] = ap (λ b. word_fault s [] b w.waiting word w.held) ahead ∙ bare_fault s [] w.waiting word w.held bare none in
      let met : step ≡ (w.held, value) = ap (λ b. word_met s.rules [] b w.waiting w.position word w.held) ahead
      ∙ bare_met s.rules [] w.waiting w.position word w.held bare none plain in
      ap (λ (o : Option (Text × List Text)). cond (is_some o) [] (or_else fault (step_fault s w.position step.0 step.1))) go_on
      ∙ ap₂ (λ (k : Kinds) (m : Held × Step). or_else k (step_fault s w.position m.0 m.1)) faults met

-- an argument of one word
module _ (s : Shape) (p : ℕ) (id : Text) (here : arg_by_index s.rules p ≡ Some (word_at id p)) (h : Held) (word : Text)
    (bare : is_dashed word ≡ false) (other : is_pending (word_at id p) h.pending ≡ false) where
  pub word_walked : walked s.rules [] (idle_at p h) word ≡ idle_at (min (p + 1) usize_max) (pushed id word (settled s.rules h))
  unfolding walked
  word_walked =
      ap (λ (m : Held × Step). after_step s.rules word (idle_at p h) m.0 m.1) (bare_met s.rules [] idle p word h bare refl refl)
      ∙ ap (λ o. to_positional s.rules o word (idle_at p h) h) here
      ∙ ap (λ b. idle_at (min (p + 1) usize_max) (pushed id word (cond (b && false) h (settled s.rules h)))) other

  pub word_turn : turn_fault s [] (idle_at p h) word ≡ settle_fault s.rules s.args_override_self h
  word_turn =
      bare_turn s p (idle_at p h) word refl refl refl refl bare
      ∙ ap (λ o. option_map_or (λ a. positional_fault s.rules s.args_override_self a h) o (stray_fault s)) here
      ∙ ap (λ b. cond (b && false) [] (settle_fault s.rules s.args_override_self h)) other

module _ (s : Shape) (p : ℕ) (here : arg_by_index s.rules p ≡ Some (blocks_at p)) where
  -- the first file
  pub first_walked : (rows : List Row) (pending : Option (Text × List Text)) (word : Text) → is_dashed word ≡ false
      → is_pending (blocks_at p) pending ≡ false
      → walked s.rules [] (idle_at p (held rows pending)) word ≡ among_files p (settled_rows s.rules pending rows) (word ∷ [])
  unfolding walked
  first_walked rows pending word bare other =
      ap (λ (m : Held × Step). after_step s.rules word (idle_at p (held rows pending)) m.0 m.1)
      (bare_met s.rules [] idle p word (held rows pending) bare refl refl)
      ∙ ap (λ o. to_positional s.rules o word (idle_at p (held rows pending)) (held rows pending)) here
      ∙ ap (λ b. record (among_files p [] []) {
        held = pushed (codes "blocks") word (cond (b && true) (held rows pending) (settled s.rules (held rows pending)));
      }) other

  pub first_turn : (rows : List Row) (pending : Option (Text × List Text)) (word : Text) → is_dashed word ≡ false
      → is_pending (blocks_at p) pending ≡ false
      → turn_fault s [] (idle_at p (held rows pending)) word ≡ settle_fault s.rules s.args_override_self (held rows pending)
  first_turn rows pending word bare other =
      bare_turn s p (idle_at p (held rows pending)) word refl refl refl refl bare
      ∙ ap (λ o. option_map_or (λ a. positional_fault s.rules s.args_override_self a (held rows pending)) o (stray_fault s)) here
      ∙ ap (λ b. cond (b && true) [] (settle_fault s.rules s.args_override_self (held rows pending))) other

  -- a further one
  next_walked : (rows : List Row) (files : List Text) (word : Text) → is_dashed word ≡ false
      → walked s.rules [] (among_files p rows files) word ≡ among_files p rows (files ++ word ∷ [])
  unfolding walked
  next_walked rows files word bare =
      ap (λ (m : Held × Step). after_step s.rules word (among_files p rows files) m.0 m.1)
      (bare_met s.rules [] positional p word (files_held rows files) bare refl refl)
      ∙ ap (λ o. to_positional s.rules o word (among_files p rows files) (files_held rows files)) here

  next_turn : (rows : List Row) (files : List Text) (word : Text) → is_dashed word ≡ false
      → turn_fault s [] (among_files p rows files) word ≡ []
  next_turn rows files word bare =
      bare_turn s p (among_files p rows files) word refl refl refl refl bare
      ∙ ap (λ o. option_map_or (λ a. positional_fault s.rules s.args_override_self a (files_held rows files)) o (stray_fault s)) here

  pub files_walked : (rows : List Row) (before files : List Text) → are_bare files ≡ true
      → fold (walked s.rules []) (among_files p rows before) files ≡ among_files p rows (before ++ files)
  files_walked rows before [] bare = ap (among_files p rows) (sym (append-nil before))
  files_walked rows before (f ∷ fs) bare =
      let parts = bare_parts f fs bare in
      ap (λ w. fold (walked s.rules []) w fs) (next_walked rows before f parts.0) ∙ files_walked rows (before ++ f ∷ []) fs parts.1
      ∙ ap (among_files p rows) (append_assoc before (f ∷ []) fs)

  pub files_fault : (rows : List Row) (before files : List Text) → are_bare files ≡ true
      → walk_fault s [] (among_files p rows before) files ≡ []
  unfolding walk_fault
  files_fault rows before [] bare = refl
  files_fault rows before (f ∷ fs) bare =
      let parts = bare_parts f fs bare in
      ap (λ k. or_else k (walk_fault s [] (walked s.rules [] (among_files p rows before) f) fs)) (next_turn rows before f parts.0)
      ∙ ap (λ w. walk_fault s [] w fs) (next_walked rows before f parts.0) ∙ files_fault rows (before ++ f ∷ []) fs parts.1
