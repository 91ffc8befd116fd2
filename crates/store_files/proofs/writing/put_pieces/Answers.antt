use Rattle.std.proofs.Common.{◌≡◌, ◌++◌, rules}
use Rattle.std.proofs.lemmas.List.{take-append-drop}
use Rattle.store_files.proofs.Pieces.{puts_then, grows_then, puts_grows, cut_of}
use Rattle.store_files.proofs.writing.put_pieces.Goals as goal

pub returns-in_err-give_piece-clause-grows : goal.returns-in_err-give_piece-clause-grows
returns-in_err-give_piece-clause-grows g c = λ tells.
    let cut : c.split_at.result.0.now ++ c.split_at.result.1.now ≡ c.loop-rest.rest.now = rw (c.split_at.ensures.front, c.split_at.ensures.back) (take-append-drop _ _) in
    grows_then _ _ _ _ _ _ _ _ (c.loop-rest.invariant.files tells) (c.give_piece.ensures.grows tells) (cut_of _ _ _ _ _ cut c.in_ok-extend_from_slice.ensures.items)

pub loop-rest-preserved : goal.loop-rest-preserved
loop-rest-preserved g c = record {
  files = λ tells.
      let cut : c.split_at.result.0.now ++ c.split_at.result.1.now ≡ c.loop-rest.rest.now = rw (c.split_at.ensures.front, c.split_at.ensures.back) (take-append-drop _ _) in
      puts_then _ _ _ _ _ _ _ _ _ (c.loop-rest.invariant.files tells) (c.in_ok-give_piece.ensures.ok tells) (cut_of _ _ _ _ _ cut c.in_ok-extend_from_slice.ensures.items);
  counts = search rules;
  room = search rules;
}
