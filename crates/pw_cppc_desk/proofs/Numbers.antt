-- Steps on word 0, and steps on no word: numbers are drawn and read, seats are split and joined.
use Rattle.std.proofs.Common.{◌≡◌, ◌≢◌, inl, ℕ, ◌+◌, ◌<◌, List, [], ◌∷◌, ◌++◌, true, false, get_or, set, sym, refl, ap, ◌∙◌, subst, arith}
use mathlib.Core.Option.{some, none}
use lib.ListN.{get_elem?}
use Rattle.atomic_table.specs.Table.{keeps, step}
use Rattle.atomic_table.proofs.Lists.{exchanged, set_else}
use Rattle.pw_regs.specs.declared.registers.Registers.{Ghosts as Registers}
use Rattle.pw_cppc.specs.declared.entry.CppcEntry.{CppcEntry}
use Rattle.pw_cppc.specs.History.{Legal}
use Rattle.pw_cppc.proofs.Joining.{legal-first}
use Rattle.pw_books.specs.declared.view.View.{View}
use Rattle.pw_books.specs.Books.{IsPrefix, count_in, furthest}
use Rattle.pw_books.specs.Sums.{AtMost}
use Rattle.pw_books.specs.Machine.{Machine, spent_view}
use Rattle.pw_books.specs.Steps.{IsSpare, draw_number, drawn, join_seats, joined, left_of, looked, miss_draw, missed, read_made, right_of, split_seat}
use Rattle.pw_books.proofs.Lists.{both_each, more_each, off, term_le}
use Rattle.pw_books.proofs.Books.{begins_furthest, longer_both}
use Rattle.pw_books.proofs.Told.{is_told}
use Rattle.pw_cppc_desk.specs.declared.setup.Setup.{Setup}
use Rattle.pw_cppc_desk.specs.Slots.{Homes, MayBe, seat_of}
use Rattle.pw_cppc_desk.specs.Rule.{IsHome, given_of, showing}
use Rattle.pw_cppc_desk.specs.Plays.{drew_step}
use Rattle.pw_books.specs.Law.{opened}
use Rattle.pw_cppc_desk.specs.Tracks.{did, joined_track}
use Rattle.pw_books.proofs.Ruled.{shows_join, shows_split}
use Rattle.pw_cppc_desk.proofs.Running.{grows}
use Rattle.pw_cppc_desk.specs.Moves.{NumberIsDrawn, NumberIsRead, SeatIsSplit, SeatsAreJoined}
use Rattle.pw_cppc_desk.proofs.Shown.{Goes, none_marked, other_marked, shows, inv_of, view_at}

module _ {R : Type 0} (by : Registers R) where
  home_after : (key : Setup R) (m : Machine CppcEntry) (hs : Homes R) (vs : List (View CppcEntry)) (made : ℕ) → IsHome by (given_of by key) m hs
      → ((k : ℕ) (u : View CppcEntry) → get_elem? vs k ≡ some u → u.mark ≡ true → ⊥)
      → IsHome by (given_of by key) record m { made = made; views = vs } hs
  home_after key m hs vs made h unmarked = record { free = h.free; blank = λ k u there mark home. absurd (unmarked k u there mark) }

  pub draws : NumberIsDrawn by
  draws n key id m made new is low idle last s o wide me _ =
      let mach = o.machine in let i = inv_of by key s o in let then = drew_step (step n 0 made new none) m in
      let first : get_or s.words 0 0 ≡ mach.made = ap (λ ws. get_or ws 0 0) o.words in
      let at : get_elem? mach.views id ≡ some m.0.view = view_at by key s o id m.0 me in
      let told = is_told seat_of (MayBe (given_of by key)) mach i id m.0.view at in
      exchanged (get_or s.words 0 0) made new (Goes by key s 0 id m then)
      (λ hit. let same : mach.made ≡ made = sym first ∙ hit in let w = drawn mach.made m.0.view in (
        did draw_number w m.0,
        keeps,
        tt,
        shows by key s o id m.0 draw_number w (set s.words 0 new) s.homes me idle.live
            (idle, subst (λ x. x < 65536) (sym same) low) refl
            (ap (λ ws. set ws 0 new) o.words ∙ ap (λ x. x ∷ mach.turn ∷ []) (is ∙ ap (λ x. x + 1) (sym same)))
            (home_after key mach s.homes (set mach.views id w) (mach.made + 1) o.home
            (none_marked by key s o id m.0.view w at idle.live idle.unmarked)),
        (
          (
            (λ _. (
              ap (λ x. (drawn x m.0.view, m.1)) same,
              subst (λ x. IsSpare x (drawn x m.0.view)) same (told.drawn_is_spare idle.live),
              subst (λ x. count_in x m.0.view.book ≡ 0) same told.drawn_is_new,
            )),
            λ miss. absurd (miss hit),
          ),
          (λ _. refl),
          λ miss. absurd (miss hit),
        ),
      ))
      (λ miss. let ne : mach.made ≢ made = λ e. miss (first ∙ e) in let less = told.missed_is_more made last ne in
      let w = missed mach.made m.0.view in (
        did miss_draw w m.0,
        keeps,
        tt,
        shows by key s o id m.0 miss_draw w (set s.words 0 (get_or s.words 0 0)) s.homes me idle.live
            (idle, inl (made, last, less)) refl (ap (λ ws. set ws 0 (get_or ws 0 0)) o.words)
            (home_after key mach s.homes (set mach.views id w) mach.made o.home
            (none_marked by key s o id m.0.view w at idle.live idle.unmarked)),
        (
          (
            (λ hit. absurd (miss hit)),
            λ _. (ap (λ x. (missed x m.0.view, m.1)) (sym first), omega (arith, less, first), omega (arith, first, i.numbers.most)),
          ),
          (λ hit. absurd (miss hit)),
          λ _. refl,
        ),
      ))

  pub reads_made : NumberIsRead by
  reads_made n key id m idle s o wide me _ =
      let mach = o.machine in let i = inv_of by key s o in
      let first : get_or s.words 0 0 ≡ mach.made = ap (λ ws. get_or ws 0 0) o.words in
      let at : get_elem? mach.views id ≡ some m.0.view = view_at by key s o id m.0 me in let w = looked mach.made m.0.view in
      let reads = (i.fits id m.0.view at).reads in
      let whole = begins_furthest mach.history m.0.view.seen m.0.view.told reads.begins reads.begins_too in (
        did read_made w m.0,
        keeps,
        tt,
        shows by key s o id m.0 read_made w (set s.words 0 (get_or s.words 0 0)) s.homes me idle.live idle refl
            (ap (λ ws. set ws 0 (get_or ws 0 0)) o.words)
            (home_after key mach s.homes (set mach.views id w) mach.made o.home
            (none_marked by key s o id m.0.view w at idle.live idle.unmarked)),
        (
          (
            ap (λ x. (looked x m.0.view, m.1)) (sym first),
            omega (arith, first, i.numbers.most),
            subst (AtMost m.0.view.read) (sym first) (i.fits id m.0.view at).at_read,
            omega (arith, i.parts, term_le (λ (u : View CppcEntry). u.parts) mach.views id m.0.view at),
            (λ told e. let both = longer_both mach.history told m.0.view.seen (subst (IsPrefix mach.history) e reads.begins_too) reads.begins in (both.2, both.1)),
            legal-first key.plan (furthest m.0.view.told m.0.view.seen) whole.0 (subst (Legal key.plan) whole.1 i.good.legal),
            reads.entries,
          ),
          refl,
        ),
      )

  pub splits : SeatIsSplit by
  splits key id x n parts idle paid spare some-part few s o me =
      let mach = o.machine in let v = x.view in
      let at : get_elem? mach.views id ≡ some v = view_at by key s o id x me in
      let l = left_of n parts v in let r = right_of n parts v in
      shows_split (showing by key) opened s.words s.homes s.views o id x me idle.live (split_seat n parts)
      (idle, paid, spare, some-part, few) (grows (MayBe (given_of by key))) l r s.words s.homes refl o.words
      (home_after key mach s.homes (set mach.views id l ++ r ∷ []) mach.made o.home (more_each (λ k u. u.mark ≡ true → ⊥) mach.views id l
      (off v.mark idle.unmarked) (λ k u ne there. other_marked by key s o id v at idle.live k u ne there) r (λ k. off false refl)))

  pub joins : SeatsAreJoined by
  joins key id x other y idle idle-w paid paid-w s o me apart there =
      let mach = o.machine in let v = x.view in let w = y.view in
      let at : get_elem? mach.views id ≡ some v = view_at by key s o id x me in
      let there-y : get_elem? s.views other ≡ some y = sym (set_else s.views id other (joined_track x y) apart) ∙ there in
      let at-w : get_elem? mach.views other ≡ some w = view_at by key s o other y there-y in
      let b = joined v w in
      shows_join (showing by key) opened s.words s.homes s.views o id x me idle.live (join_seats other w)
      (apart, at-w, idle, idle-w, paid, paid-w) (join_seats 0 w) refl b spent_view refl other y there s.words s.homes refl o.words
      (home_after key mach s.homes (set (set mach.views id b) other spent_view) mach.made o.home (both_each (λ k u. u.mark ≡ true → ⊥) mach.views id b
      (off v.mark idle.unmarked) (λ k u ne there. other_marked by key s o id v at idle.live k u ne there) other spent_view (off false refl)))
