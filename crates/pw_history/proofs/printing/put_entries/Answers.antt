use Rattle.std.proofs.Common.{◌≡◌, ◌+◌, ◌∙◌, ◌++◌, ◌-◌, [], ℕ, List, drop, take, take_all, length, length-drop, ap, append_assoc, arith, refl, sym, subst}
use Rattle.std.specs.Prelude.{is_some, option_copied}
use Rattle.pw_kind.specs.History.{after_entry}
use Rattle.pw_text.specs.Lines.{text_of}
use Rattle.pw_text.proofs.Putting.{PutsText-as, PutsText-none, PutsText-stop, PutsText-then}
use Rattle.pw_history.specs.HistoryText.{entry_lines, lines_from}
use Rattle.pw_history.specs.inner.Known.{IsKnown}
use Rattle.pw_history.proofs.Known.{as_known, copied_some, others_are_known, own_known, still_known}
use Rattle.pw_history.proofs.Printed.{lines_step, others_state}
use Rattle.pw_history.proofs.printing.put_entries.Goals as goal

pub loop-left-init : goal.loop-left-init
loop-left-init g c =
    let W = g.T.Kind.words in
    let P = c.args.named.now.plan.now in
    let one : length c.args.entries.now - length c.args.entries.now + 1 ≡ 1 = omega arith in
    record {
      so_far = (
        W.kind.opening P,
        c.requires.kept,
        c.requires.known,
        [],
        PutsText-none _ _,
        ap (λ n. text_of (lines_from W P (W.kind.opening P) n c.args.entries.now)) one,
      );
      mode = refl;
      rest = c.requires.entries;
      room = c.requires.room;
      count = omega arith;
    }

pub returns-in_err-put_entry : goal.returns-in_err-put_entry
returns-in_err-put_entry g c =
    let W = g.T.Kind.words in
    let P = c.args.named.now.plan.now in
    let left = c.loop-left.left.now in
    let so_far = c.loop-left.invariant.so_far in
    let some = c.in-len1-up.len_at_least in
    let e = c.entry-item.result in
    let step = lines_step W P so_far.0 (length c.args.entries.now - length left + 1) left e some c.entry-item.is in
    let known = option_copied c.loop-left.replies in
    let told = subst (IsKnown W.kind P so_far.0 e) (sym c.first_known.ensures) (own_known W.kind P so_far.0 left e known some c.entry-item.is so_far.2) in
    let mode : is_some c.first_known.result ≡ is_some c.args.known =
    ap is_some c.first_known.ensures ∙ as_known W.kind P so_far.0 left known some so_far.2 ∙ copied_some c.loop-left.replies ∙ c.loop-left.invariant.mode in
    let kept = subst (λ b. g.T.Kind.keeps P b so_far.0 c.loop-left.kept) (sym mode) so_far.1 in
    PutsText-as _ (ap (λ (l : List ℕ). so_far.3 ++ l) step ∙ so_far.5)
    (PutsText-then so_far.4 (PutsText-stop _ c.from_residual.result c.from_residual.ensures.0 (c.in_err-put_entry.ensures.text so_far.0 kept told)))

pub loop-left-preserved : goal.loop-left-preserved
loop-left-preserved g c =
    let W = g.T.Kind.words in
    let P = c.args.named.now.plan.now in
    let left = c.loop-left.left.now in
    let so_far = c.loop-left.invariant.so_far in
    let some = c.in-len1-up.len_at_least in
    let e = c.entry-item.result in
    let n = length c.args.entries.now - length left + 1 in
    let step = lines_step W P so_far.0 n left e some c.entry-item.is in
    let known = option_copied c.loop-left.replies in
    let told = subst (IsKnown W.kind P so_far.0 e) (sym c.first_known.ensures) (own_known W.kind P so_far.0 left e known some c.entry-item.is so_far.2) in
    let mode : is_some c.first_known.result ≡ is_some c.args.known =
    ap is_some c.first_known.ensures ∙ as_known W.kind P so_far.0 left known some so_far.2 ∙ copied_some c.loop-left.replies ∙ c.loop-left.invariant.mode in
    let kept = subst (λ b. g.T.Kind.keeps P b so_far.0 c.loop-left.kept) (sym mode) so_far.1 in
    let size = c.loop-left.invariant.count in
    let room = c.loop-left.invariant.room in
    let few = length-drop 1 left in
    let rest : take (length left - 1) (drop 1 left) ≡ drop 1 left = take_all _ _ (omega arith) in
    let next : length c.args.entries.now - length (drop 1 left) + 1 ≡ n + 1 = omega (arith, few, some, size) in
    record {
      so_far = (
        after_entry W.kind P so_far.0 e,
        subst (λ b. g.T.Kind.keeps P b (after_entry W.kind P so_far.0 e) c.put_entry.new.kept) mode (c.in_ok-put_entry.ensures.after so_far.0 kept told),
        rw (rest, c.others_known-replies.ensures) (others_are_known W.kind P so_far.0 left e known some c.entry-item.is so_far.2),
        so_far.3 ++ text_of (entry_lines W P so_far.0 n e),
        PutsText-then so_far.4 (c.in_ok-put_entry.ensures.text so_far.0 kept told),
        rw (rest, next) (append_assoc so_far.3 _ _ ∙ ap (λ (l : List ℕ). so_far.3 ++ l) step ∙ so_far.5),
      );
      mode = sym (copied_some c.others_known-replies.result) ∙ ap is_some c.others_known-replies.ensures ∙ still_known known ∙ copied_some c.loop-left.replies ∙ c.loop-left.invariant.mode;
      rest = rw rest (others_state (g.T.Kind.states P) left some c.loop-left.invariant.rest);
      room = rw c.in_ok-put_entry.ensures.room room;
      count = rw rest (omega (arith, few, size));
    }
