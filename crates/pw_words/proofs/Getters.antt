-- What the getters of `ArgMatches` say of the rows.
use Rattle.std.proofs.Common.{◌≡◌, ◌∙◌, true, sym, ap, ap₂, refl, List, Option, Some, None, is_some, option_map, true≢false}
use Rattle.std.specs.Prelude.{Box, find, option_and_then}
use Rattle.std.specs.Box.{box_value}
use Rattle.std.specs.Option.{unwrap_or}
use Rattle.std.specs.Str.{bytes_eq}
use Rattle.clap.specs.Facts.{Entry}
use Rattle.clap.specs.Matches.{matched_of, subcommand_name_of}
use Rattle.clap.specs.Simple.{subcommand_rows, subcommand_rows_of}
use Rattle.clap.specs.declared.parser.matches.ArgMatches.{ArgMatches}
use Rattle.clap.specs.declared.parser.matches.ArgMatches.TheViews.{out-ArgMatches, out-SubCommand}
use Rattle.clap.specs.declared.parser.matches.SubCommand.{SubCommand}
use Rattle.clap.specs.Walk.{Row, Text, row_of, rows_of}
use Rattle.clap.proofs.WalkLemmas.{find_row}
use Rattle.clap.specs.declared.parser.matches.Found.{Found}
use Rattle.clap.specs.declared.parser.matches.ValueSource.{ValueSource}
use Rattle.pw_words.specs.Stated.{from_words, is_used}

pub used_is : (f : Found) (id : Text) (s : Option ValueSource) → s ≡ option_and_then (λ a. a.source) (matched_of f id)
    → from_words s ≡ is_used id (rows_of f)
used_is f id s e = ap from_words (e ∙ go (find (λ e. bytes_eq e.0.now id) f.entries.items)
    ∙ ap (option_and_then (λ (r : Row). r.source)) (sym (find_row f.entries.items id)))
  where
    go : (o : Option Entry)
        → option_and_then (λ a. a.source) (option_map (λ e. e.1) o) ≡ option_and_then (λ (r : Row). r.source) (option_map row_of o)
    go None = refl
    go (Some a) = refl

pub never_none : {X Y : Type 0} (r : Option X) (g : X → Y) (o : Option Y) → r ≡ None → option_map g r ≡ o → is_some o ≡ true → ⊥
never_none r g o none e t = true≢false (sym t ∙ sym (ap is_some e) ∙ ap (λ x. is_some (option_map g x)) none)

some≢none : {X : Type 0} (x : X) → Some x ≡ None → ⊥
some≢none x e = true≢false (ap is_some e)

pub inside : {X : Type 0} (x y : X) → Some x ≡ Some y → x ≡ y
inside x y e = ap (λ o. unwrap_or o x) e

module _ {Z : Type 0} where
  by_box : (o : Option (Box SubCommand Z)) (n : Text) (rows : List Row)
      → Some n ≡ option_map (λ b. (out-SubCommand (box_value b)).name.now) o
      → Some rows ≡ option_map (λ (p : Text × List Row). p.1) (subcommand_rows o) → subcommand_rows o ≡ Some (n, rows)
  by_box None n rows e f = absurd (some≢none n e)
  by_box (Some b) n rows e f = ap₂ (λ (x : Text) (y : List Row). Some (x, y)) (sym (inside _ _ e)) (sym (inside _ _ f))

-- the subcommand of a parse, by its name and by its matches
pub subcommand_is : (m : ArgMatches) (n : Text) (rows : List Row) → Some n ≡ subcommand_name_of m
    → Some rows ≡ option_map (λ p. p.1) (subcommand_rows_of m) → subcommand_rows_of m ≡ Some (n, rows)
subcommand_is m n rows e f = by_box (out-ArgMatches m).subcommand n rows e f
