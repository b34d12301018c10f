use Rattle.std.proofs.Common.{◌≡◌, ◌*◌, ℕ, ◌∷◌, ◌++◌, ◌∙◌, length, drop, sym, ap, arith}
use Rattle.std.specs.List.{join_with_byte}
use Rattle.pw_embed.proofs.Leading.{led-next}
use Rattle.pw_embed.proofs.paths.write_path.Goals as goal

pub returns-in-len1-up-clause-written : goal.returns-in-len1-up-clause-written
returns-in-len1-up-clause-written c =
    let segs = c.args.segs.now in
    let text = 92 ∷ join_with_byte 46 segs in
    let counted : 5 * length segs ≡ length text =
    sym (c.path_length-length.ensures.counted c.in-len1-up.len_at_least) ∙ c.path_length-length.ensures.value in (
      (λ fits. rw (c.put_led.ensures, c.put_segs.ensures)
          (led-next 92 segs c.first-item.result c.args.out.now _ c.in-len1-up.len_at_least c.first-item.is c.split_at_mut-head.ensures.back
          ∙ ap (λ (n : ℕ). text ++ drop n c.args.out.now) counted)),
      (λ less. absurd (omega (arith, less, c.if-length-out.true, c.path_length-length.ensures.value))),
    )
