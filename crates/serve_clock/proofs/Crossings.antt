-- A ticker may go to another thread, and threads may share the clock of a line.
use denote.Ref.{NamedLft}
use denote.Param.Send.{IsSend, IsSync, sendable}
use Rattle.std.proofs.Crossing.{crosses}
use Rattle.dp_shared.proofs.Sharing.{shared_book_send, pass_send}
use Rattle.dp_shared.proofs.claims.Claims.TheSendSync as claims
use Rattle.dp_shared.proofs.one_slot.OneSlot.TheSendSync as slot
use Rattle.dp_sessions.proofs.port.LineAndClaims.TheSendSync as port
use Rattle.serve_clock.proofs.line_time.LineTime.TheSendSync as time
use Rattle.serve_clock.specs.contracts.ticker.Ticker as ticker
use Rattle.serve_clock.specs.contracts.line_clock.LineClock as clock

ticker_send : (lent : NamedLft) → IsSend (ticker.the_row lent)
ticker_send lent = search (sendable, crosses, slot.the_sync, shared_book_send, pass_send, time.the_send) depth 60 fits 100000

pub clock_sync : (lent : NamedLft) → IsSync (clock.the_row lent)
clock_sync lent = search (sendable, crosses, ticker_send, port.the_sync, slot.the_sync, claims.the_sync, shared_book_send) depth 80 fits 200000
