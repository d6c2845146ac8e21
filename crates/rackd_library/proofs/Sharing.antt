-- A rack in process may go to another thread: it has no reference, no counted owner and no lock, so each of its parts may.
use denote.Param.Send.{IsSend, sendable, struct_send}
use denote.Struct.Declared.{shape}
use Rattle.std.proofs.Crossing.{crosses}
use Rattle.arrayvec.proofs.array_vec.ArrayVec.TheSendSync as array
use Rattle.dp_line.proofs.event.Step.TheSendSync as step
use Rattle.dp_line.proofs.line_state.LineState.TheSendSync as line
use Rattle.dp_audit.proofs.record.Record.TheSendSync as record_of
use Rattle.dp_audit.proofs.window.Window.TheSendSync as window
use Rattle.dp_audit.specs.contracts.book.Book as book
use Rattle.dp_audit.specs.contracts.book.Book.TheInside as book_inside
use Rattle.dp_text.proofs.text.Text.TheSendSync as text
use Rattle.rack_file.proofs.rack.RackLine.TheSendSync as rack_line
use Rattle.rack_devices.proofs.driven_slave.DrivenSlave.TheSendSync as driven
use Rattle.embedded_rack.proofs.stream.Stream.TheSendSync as stream
use Rattle.embedded_rack.proofs.embedded_line.Room.TheSendSync as room
use Rattle.embedded_rack.specs.contracts.embedded_line.EmbeddedLine as embedded_line
use Rattle.embedded_rack.specs.contracts.embedded_line.EmbeddedLine.TheInside as line_inside
use Rattle.embedded_rack.specs.contracts.embedded_rack.EmbeddedRack as embedded_rack
use Rattle.embedded_rack.specs.contracts.embedded_rack.EmbeddedRack.TheInside as rack_inside

book_field : IsSend book_inside.the_field.row
book_field = struct_send (shape book_inside.the_type) (search sendable, (line.the_send, (window.the_send, (search (sendable, crosses), tt))))

book_send : IsSend book.the_row
book_send = search (sendable, book_field)

line_field : IsSend line_inside.the_field.row
line_field = struct_send (shape line_inside.the_type) (book_send, (search (sendable, crosses, stream.the_send), (search (sendable, crosses, array.the_send, driven.the_send) depth 10, (room.the_field_send, tt))))

line_send : IsSend embedded_line.the_row
line_send = search (sendable, line_field)

rack_field : IsSend rack_inside.the_field.row
rack_field = struct_send (shape rack_inside.the_type) (search (sendable, crosses, line_send), (search (sendable, crosses, rack_line.the_send), (search sendable, (step.the_field_send, (text.the_send, (record_of.the_send, tt))))))

pub rack_send : IsSend embedded_rack.the_row
rack_send = search (sendable, rack_field)
