-- The field says only that a proof exists. An entailment is a proposition, so the proof may be opened in front of the walk that Rattle made.
use seplogic.Bi.Basic.{Entails-prop}
use mathlib.Core.Logic.{∥∥₁_elim}
use base.Logic.{via, mono_r}
use denote.Triple.Entry.{on_entry}
use borrow.Fn.Kinds.{sig_of}
use contract.Monad.{fact_mono}
use Rattle.pw_embed.specs.Resting.{BeganHere}
use Rattle.pw_embed.proofs.ongoing.Ongoing.began.Statement.{statement}
use Rattle.pw_embed.proofs.ongoing.Ongoing.began.Lts as lts
use Rattle.pw_embed.proofs.ongoing.Ongoing.began.Reads as reads
use Rattle.pw_embed.proofs.ongoing.Ongoing.began.Tie as tie

pub began_spec : {M : Type 1} → statement M
began_spec {M} =
    tie.close (λ 𝓤 𝓛 𝓣 y.
    ∥∥₁_elim y.0.3.0.now.began (Entails-prop 𝓤.op _ _) (λ began.
    via 𝓤 _ (mono_r 𝓤 (on_entry 𝓛 (sig_of 1 lts.ps lts.r) y.0.0 y.0.1 y.0.3 y.0.4) (fact_mono 𝓤 _ (BeganHere y.0.3.0.now) (λ _. began)))
    (lts.spec (λ κs a. BeganHere a.0.now) reads.Post (λ c. c.requires) 𝓤 𝓛 𝓣 y)))
