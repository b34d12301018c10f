use Rattle.std.proofs.Common.{◌∷◌, [], arith, codes, refl, subst, sym, true≢false}
use Rattle.clap.specs.Walk.{Text, rows_after}
use Rattle.clap.specs.declared.error.kind.ErrorKind.TheVariants as kind
use Rattle.clap.proofs.OnLiterals.{clap_on_literals}
use Rattle.pw_words.specs.Words.{AreMiscounted, IsCount}
use Rattle.pw_words.proofs.Asking.{not_miscounted}
use Rattle.pw_words.proofs.Counts.{of_two, two_are}
use Rattle.pw_words.proofs.Getters.{inside}
use Rattle.pw_words.proofs.Driving.{drive_leaf}
use Rattle.pw_words.proofs.Kept.{some_kind}
use Rattle.pw_words.proofs.Levels.{show_leaf}
use Rattle.pw_words.proofs.Generating.{generate_leaf}
use Rattle.pw_words.proofs.laws.other_words.Goals as goal

pub returns-clause-behind : goal.returns-clause-behind
unfolding clap_on_literals
returns-clause-behind c = record {
  plain = λ e. absurd (true≢false (sym e));
  other = λ e. record {
    rows = rows_after show_leaf.rules [] (codes "--" ∷ codes "--json" ∷ []);
    taken = refl;
    command = refl;
    said = (refl, refl);
  };
}

-- the flag ends the first use of the names, and there is no second one
pub returns-clause-between : goal.returns-clause-between
unfolding clap_on_literals
returns-clause-between c = λ asks. some_kind [] kind.ArgumentConflict (asks.1.other refl).taken

pub returns-clause-script : goal.returns-clause-script
unfolding clap_on_literals
returns-clause-script c = record {
  plain = λ e. absurd (true≢false (sym e));
  other = λ e. record {
    rows = rows_after drive_leaf.rules [] (codes "--step" ∷ codes "--" ∷ codes "--serial" ∷ codes "-b" ∷ []);
    taken = refl;
    command = refl;
    said = ((refl, refl), refl, refl);
  };
}

pub returns-clause-twice : goal.returns-clause-twice
unfolding clap_on_literals
returns-clause-twice c = λ asks. some_kind [] kind.ArgumentConflict (asks.1.other refl).taken

pub returns-clause-count : goal.returns-clause-count
unfolding clap_on_literals
returns-clause-count c = record {
  plain = λ e. absurd (true≢false (sym e));
  other = λ e. record {
    rows = rows_after generate_leaf.rules [] (codes "--" ∷ codes "32" ∷ []);
    taken = refl;
    command = refl;
    said = (codes "32", refl, of_two 51 50 32 refl refl (omega arith) (omega arith));
  };
}

miscounted : AreMiscounted (codes "generate" ∷ codes "--" ∷ codes "33" ∷ [])
unfolding clap_on_literals
miscounted = record {
  rows = rows_after generate_leaf.rules [] (codes "--" ∷ codes "33" ∷ []);
  taken = refl;
  command = refl;
  unsaid = λ n said.
      let is = two_are 51 51 n (subst (λ (w : Text). IsCount w n) (inside said.0 (codes "33") (sym said.1)) said.2) in
      absurd (omega arith);
}

pub returns-clause-many : goal.returns-clause-many
returns-clause-many c = λ asks. not_miscounted _ asks.0 (asks.1.other refl) miscounted
