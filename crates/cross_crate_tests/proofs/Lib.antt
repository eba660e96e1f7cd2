mod HeapRooms
