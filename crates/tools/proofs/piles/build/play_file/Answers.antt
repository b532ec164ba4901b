use Rattle.files.specs.Sessions.{contents_of}
use Rattle.tools.proofs.piles.build.play_file.Goals as goal

-- what the file holds is what the session has
pub returns : goal.returns
returns c =
    let played = c.in_ok-play_session.ensures in
    (contents_of c.in_ok-session.session, c.in_ok-session.ensures.formed, played.pile, played.plays, played.all)
