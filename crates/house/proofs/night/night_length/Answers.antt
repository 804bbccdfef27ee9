-- `house::night::night_length` meets its contract.
use Rattle.std.proofs.Common.{◌≡◌, rules}
use Rattle.house.specs.House.{room_answer}
use Rattle.house.proofs.Whole.{length_of}
use Rattle.house.proofs.night.night_length.Goals as goal

pub returns : goal.returns
returns c =
    let l : c.unwrap_or.result ≡ (room_answer c.room_after_night.result).left = search rules in rw l (length_of _ _ c.room_after_night.ensures)
