use Rattle.std.proofs.Common.{◌≡◌, ◌<◌, ap, ◌∙◌, arith}
use Rattle.std.specs.Prelude.{length}
use Rattle.std.proofs.lemmas.Bool.{ltb-true}
use Rattle.pat_semantics_spec.specs.Configs.{Config}
use Rattle.pat_machine_states.proofs.Keeping.{counted}
use Rattle.pat_machine_states.proofs.Seen.{config_of, places_of}
use Rattle.pat_machine_states.proofs.state.IndexedConfig.has_place.Goals as goal

pub returns : goal.returns
returns c = λ yes.
    let i = c.self.inside in
    let less : c.pending.result < c.room.result = ltb-true c.pending.result c.room.result yes in
    let all : c.pending.result ≡ length c.args.self.now.config.messages =
    c.pending.ensures ∙ counted i.placed i.latest i.mailboxes.mailboxes c.self.invariant ∙ ap (λ (d : Config). length d.messages) (config_of c.self.view_is) in
    let most : c.room.result ≡ c.args.self.now.places = c.room.ensures ∙ places_of c.self.view_is in
    omega (arith, less, all, most)
