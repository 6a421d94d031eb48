use Rattle.std.proofs.Common.{not, map, ap, sym, ◌∙◌, ◌∷◌, ◌&&◌}
use Rattle.std.specs.List.{list_all}
use Rattle.std.proofs.lemmas.Bool.{and_parts}
use Rattle.pat_semantics_spec.specs.Programs.{is_among}
use Rattle.pat_type_system_spec.specs.Typed.{mailboxes_of}
use Rattle.pat_reduce_values.specs.ValueViews.{value_view}
use Rattle.pat_checkpoint_spec.specs.Numbers.{value_lives}
use Rattle.pat_checkpoint_numbers.specs.Marked.{is_marked, are_new}
use Rattle.pat_checkpoint_numbers.proofs.News.{none_marked, new_with}
use Rattle.pat_checkpoint_numbers.proofs.differing.message_differs.Goals as goal

pub loop-value-init : goal.loop-value-init
loop-value-init c =
    let live = c.args.marks.now.live.now in
    let values = c.args.message.now.values in
    let a = c.args.message.now.mailbox in
    let m = is_marked c.clear.new.self in
    let n = is_marked c.mark.new.self in
    let none = c.in_ok-clear.ensures.none in
    let bs = mailboxes_of (map value_view values) in
    record {
      live = c.mark.ensures.live ∙ c.in_ok-clear.ensures.live;
      lives = ap (λ l. list_all (value_lives live) (map value_view l)) c.as_slice-value-items.ensures ∙ (and_parts (is_among a live) (list_all (value_lives live) (map value_view values)) c.requires).1;
      same =
          ap (λ l. are_new n (mailboxes_of (map value_view l))) c.as_slice-value-items.ensures
          ∙ sym (new_with m n a bs c.mark.ensures.marked ∙ ap (λ t. not t && are_new n bs) (none a))
          ∙ none_marked m (a ∷ bs) none;
    }
